use Rattle.std.proofs.Common.{◌<◌, length, get_or, refl, arith}
use Rattle.pure_order_tables.proofs.RowLaws.{joined_turn}
use Rattle.pure_order_tables.proofs.rows.put_words.Goals as goal

pub loop-i-preserved : goal.loop-i-preserved
loop-i-preserved c =
    let within : c.loop-i.i < length c.loop-i.words = omega (arith, c.loop-i-test.true, c.min-i-end.ensures, c.loop-i.invariant.count, c.told-words) in
    joined_turn c.args.words.now c.args.row.now c.loop-i.words c.loop-i.i (get_or c.args.row.now c.loop-i.i 0) within refl c.loop-i.invariant
