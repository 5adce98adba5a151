use Rattle.std.proofs.Common.{rules, subst}
use Rattle.pure_board_lock.specs.Seats.{IsWhole}
use Rattle.pure_board_lock.proofs.SeatLaws.{keeps-noting}
use Rattle.pure_board_lock.proofs.EndLaws.{final-ends, there-is, one-there}
use Rattle.pure_board_lock.proofs.desk.Desk.close.Goals as goal

pub split_seat-note-requires : goal.split_seat-note-requires
split_seat-note-requires g c = (c.requires.desk, search rules, keeps-noting _ _ _ _ _ c.requires.free.lives c.requires.free.is_opened)

pub unreachable-requires : goal.unreachable-requires
unreachable-requires g c = let free = c.requires.free in
    let t = final-ends _ _ _ _ _ _ _ _ _ c.split_seat-note.ensures.2 c.close_with-closed.ensures.values.2 free.lives free.is_opened free.is_free c.requires.all in
    there-is _ t.0 t.1 c.in-None.ensures.value

pub returns-clause-whole : goal.returns-clause-whole
returns-clause-whole g c = let free = c.requires.free in
    let t = final-ends _ _ _ _ _ _ _ _ _ c.split_seat-note.ensures.2 c.close_with-closed.ensures.values.2 free.lives free.is_opened free.is_free c.requires.all in
    subst (IsWhole g.P.Course.after g.P.Course.legal c.args.seat.me.0) (one-there _ t.0 c.in-Some.object t.1 c.in-Some.ensures.value) t.2
