use Rattle.std.proofs.Common.{◌∙◌, ◌<◌, length, get_or, refl, arith}
use Rattle.std.proofs.lemmas.Grind.{get_or_default_zero}
use Rattle.pure_order_tables.proofs.RowLaws.{joined_turn}
use Rattle.pure_promise_fates.proofs.rows.put_row.Goals as goal

pub loop-i-preserved : goal.loop-i-preserved
loop-i-preserved c =
    let within : c.loop-i.i < length c.loop-i.row.items = omega (arith, c.loop-i-test.true, c.min-i-end.ensures, c.len.ensures, c.args.row.now.ok.0, c.loop-i.invariant.count) in
    rw (c.index_mut.ensures.value ∙ get_or_default_zero c.loop-i.row.items c.loop-i.i c.index_mut.result.now within)
    (joined_turn c.args.row.now.items c.args.other.now c.loop-i.row.items c.loop-i.i (get_or c.args.other.now c.loop-i.i 0) within refl c.loop-i.invariant)
