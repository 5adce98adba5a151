use Rattle.std.proofs.Common.{false, []}
use Rattle.pure_eta.specs.LongTerm.{long_term}
use Rattle.pure_eta.proofs.FitsLaws.{room-within, no_room-not_within}
use Rattle.pure_eta.proofs.LongLaws.{long_form-is}
use Rattle.pure_eta.proofs.long.long_form.Goals as goal

pub returns-in_default : goal.returns-in_default
returns-in_default c =
    let t = c.args.t.now in
    (long_term false [] t, long_form-is t c.requires.typed.0 c.requires.typed.1 c.requires.normal, no_room-not_within (long_term false [] t) c.in_default.ensures)

pub returns : goal.returns
returns c =
    let t = c.args.t.now in
    rw (c.in_ok-copy.ensures, c.deref.ensures, c.in_ok-long.ensures, c.in_ok-t.ensures) (long_form-is t c.requires.typed.0 c.requires.typed.1 c.requires.normal, room-within (long_term false [] t) c.in-Some.field-0 c.in-Some.ensures)
