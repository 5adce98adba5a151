use Rattle.std.proofs.Common.{◌==◌, sym}
use Rattle.std.specs.List.{slice_split}
use Rattle.pure_rows.specs.Fields.{tab}
use Rattle.pure_rows.proofs.Readings.{fields_read, fields_stood_for}
use Rattle.pure_rows.proofs.row.read_row.Goals as goal

pub returns-in-Some : goal.returns-in-Some
returns-in-Some c =
    let read = rw (c.in-Some.is, c.deref.ensures.value, c.in_ok-written.ensures) at c.in_ok-fields.ensures in
    fields_read _ _ (sym read)

pub returns : goal.returns
returns c = λ fields row.
    let read = rw (c.in-None.is, c.deref.ensures.value, c.in_ok-written.ensures) at c.in_ok-fields.ensures in
    let other = fields_stood_for (slice_split (λ b. b == tab) c.args.line.now) fields row in
    cc
