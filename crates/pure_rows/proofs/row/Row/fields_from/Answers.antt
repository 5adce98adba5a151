use Rattle.std.proofs.Common.{sym}
use Rattle.std.proofs.lemmas.List.{take_rest, drop_min, drop-map}
use Rattle.pure_rows.proofs.row.Row.fields_from.Goals as goal

pub returns : goal.returns
returns c =
    let fields = c.as_slice-fields.result.now in
    rw (take_rest fields c.min.result, c.min.ensures, drop_min c.args.place fields, c.as_slice-fields.ensures.value, ← c.self.view_is)
    (sym (drop-map _ c.args.place c.self.inside.fields.items))
