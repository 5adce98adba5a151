use Rattle.std.proofs.Common.{rules}
use Rattle.pure_board_lock.proofs.SeatLaws.{keeps-splitting}
use Rattle.pure_board_lock.proofs.desk.Desk.split.Goals as goal

pub split_seat-requires : goal.split_seat-requires
split_seat-requires g c = (c.requires.desk, search rules, keeps-splitting _ _ _ _ _ c.requires.free.lives c.requires.free.is_opened c.requires.counts)
