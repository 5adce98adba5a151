use Rattle.pure_board.proofs.SeatLaws.{tells-seats}
use Rattle.pure_board.proofs.board.Board.stop.Goals as goal

pub returns-clause-stopped : goal.returns-clause-stopped
returns-clause-stopped g c = tells-seats _ _ _ _ _ _ _ _ _ _ _ _ _ _ _ c.stop_by.ensures.done c.stop_by.ensures.desk c.seat.view_is
