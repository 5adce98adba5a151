use Rattle.pure_board.proofs.SeatLaws.{tells-seats}
use Rattle.pure_board.proofs.board.Board.take.Goals as goal

pub returns-clause-taken : goal.returns-clause-taken
returns-clause-taken g c = tells-seats _ _ _ _ _ _ _ _ _ _ _ _ _ _ _ c.take_by.ensures.done c.take_by.ensures.desk c.seat.view_is
