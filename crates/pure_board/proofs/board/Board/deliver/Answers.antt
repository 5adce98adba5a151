use Rattle.pure_core_runs.specs.Seats.{state_of}
use Rattle.pure_board.specs.Taken.{IsGoalOf}
use Rattle.pure_board.proofs.SeatLaws.{tells-seats, may-tokens}
use Rattle.pure_board.proofs.board.Board.deliver.Goals as goal

pub returns-clause-delivered : goal.returns-clause-delivered
returns-clause-delivered g c = tells-seats _ _ _ _ _ _ _ _ _ _ _ _ _ _ _ c.deliver_by.ensures.done c.deliver_by.ensures.desk c.seat.view_is

pub deliver_by-requires-clause-may : goal.deliver_by-requires-clause-may
deliver_by-requires-clause-may g c κs within = may-tokens (λ k o l. (x : _) × IsGoalOf (state_of o l) c.args.number x × g.W.Work.may k x c.args.outcome) _ c.seat.inside.token.me.0 _ _ _ c.seat.view_is c.requires.may
