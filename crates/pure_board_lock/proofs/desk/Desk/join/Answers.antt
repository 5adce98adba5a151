use Rattle.std.proofs.Common.{rules}
use Rattle.pure_board_lock.proofs.SeatLaws.{keeps-joining}
use Rattle.pure_board_lock.proofs.desk.Desk.join.Goals as goal

pub join_seat-requires : goal.join_seat-requires
join_seat-requires g c = let seat = c.requires.free.0 in let other = c.requires.free.1 in
    (c.requires.desk.0, c.requires.desk.1, other.has_none, search rules, keeps-joining _ _ _ _ _ _ _ seat.lives seat.is_opened seat.is_free other.lives other.is_free)
