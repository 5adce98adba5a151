use Rattle.std.proofs.Common.{◌∙◌, ◌/◌}
use Rattle.std.proofs.lemmas.Grind.{get_or_default_zero}
use Rattle.pure_order_tables.proofs.RowLaws.{held_after}
use Rattle.pure_citations.proofs.rows.put_place.Goals as goal

pub returns : goal.returns
returns c = rw (c.index_mut.ensures.value ∙ get_or_default_zero c.args.row.now.items (c.args.number / 64) c.index_mut.result.now c.requires) (held_after c.args.row.now.items c.args.number c.requires)
