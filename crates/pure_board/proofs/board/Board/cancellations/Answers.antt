use Rattle.pure_board.proofs.SeatLaws.{tells-seats}
use Rattle.pure_board.proofs.board.Board.cancellations.Goals as goal

pub returns-clause-counted : goal.returns-clause-counted
returns-clause-counted g c = tells-seats _ _ _ _ _ _ _ _ _ _ _ _ _ _ _ c.cancellations_by.ensures.done c.cancellations_by.ensures.desk c.seat.view_is
