use Rattle.std.proofs.Common.{◌<◌, get_or}
use Rattle.pure_text.proofs.AnswerLaws.{yes_as}
use Rattle.pure_order_tables.proofs.RowLaws.{apart_turn, common_place}
use Rattle.pure_order_tables.proofs.rows.meet.Goals as goal

pub returns-then-first-i-ne0 : goal.returns-then-first-i-ne0
returns-then-first-i-ne0 c =
    let fits : get_or c.args.first.now c.loop-i.i 0 < 18446744073709551616 = (c.type_inv.first c.loop-i.i).fits in
    yes_as _ (common_place c.args.first.now c.args.second.now c.loop-i.i fits c.if-first-i-ne0.true)

pub loop-i-preserved : goal.loop-i-preserved
loop-i-preserved c = apart_turn c.args.first.now c.args.second.now c.loop-i.i c.if-first-i-ne0.false c.loop-i.invariant
