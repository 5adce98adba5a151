use Rattle.std.proofs.Common.{◌∙◌, ◌<◌, length, arith}
use Rattle.std.proofs.lemmas.Grind.{get_or_default_zero}
use Rattle.pure_order_tables.proofs.RowLaws.{common_all, common_turn}
use Rattle.pure_order_tables.proofs.rows.put_common.Goals as goal

pub loop-i-preserved : goal.loop-i-preserved
loop-i-preserved c =
    let within : c.loop-i.i < length c.loop-i.row.items = omega (arith, c.loop-i-test.true, c.min-i-end.ensures, c.min.ensures, c.len.ensures, c.args.row.now.ok.0, c.loop-i.invariant.count) in
    rw (c.index_mut.ensures.value ∙ get_or_default_zero c.loop-i.row.items c.loop-i.i c.index_mut.result.now within)
    (common_turn c.args.row.now.items c.args.first.now c.args.second.now c.loop-i.row.items c.loop-i.i within (omega (arith, c.loop-i-test.true, c.min-i-end.ensures, c.min.ensures)) (omega (arith, c.loop-i-test.true, c.min-i-end.ensures)) c.loop-i.invariant)

pub returns-clause-held : goal.returns-clause-held
returns-clause-held c = common_all c.args.row.now.items c.args.first.now c.args.second.now c.loop-i.row.items c.loop-i.i (omega (arith, c.loop-i-test.false, c.min-i-end.ensures, c.min.ensures, c.len.ensures)) c.loop-i.invariant
