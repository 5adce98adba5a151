use Rattle.pure_board.proofs.SeatLaws.{tells-seats}
use Rattle.pure_board.proofs.board.Board.poll.Goals as goal

pub returns-clause-polled : goal.returns-clause-polled
returns-clause-polled g c = tells-seats _ _ _ _ _ _ _ _ _ _ _ _ _ _ _ c.poll_by.ensures.done c.poll_by.ensures.desk c.seat.view_is
