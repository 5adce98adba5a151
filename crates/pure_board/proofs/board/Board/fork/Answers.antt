use Rattle.pure_board.proofs.SeatLaws.{tells-seats}
use Rattle.pure_board.proofs.board.Board.fork.Goals as goal

pub returns-clause-forked : goal.returns-clause-forked
returns-clause-forked g c = tells-seats _ _ _ _ _ _ _ _ _ _ _ _ _ _ _ c.fork_by.ensures.done c.fork_by.ensures.desk c.seat.view_is
