use Rattle.pure_board.proofs.SeatLaws.{tells-seats}
use Rattle.pure_board.proofs.board.Board.close_theory.Goals as goal

pub returns-clause-closed : goal.returns-clause-closed
returns-clause-closed g c = tells-seats _ _ _ _ _ _ _ _ _ _ _ _ _ _ _ c.close_by.ensures.done c.close_by.ensures.desk c.seat.view_is
