use Rattle.std.proofs.Common.{arith}
use Rattle.pure_tunify.proofs.UnifyLaws.{come_next}
use Rattle.pure_tunify.proofs.unifier.solve_front.Goals as goal

pub loop-i-preserved : goal.loop-i-preserved
loop-i-preserved c =
    let many = c.requires.many in
    let inside = c.loop-i-test.true in
    come_next c.args.order.now c.args.settings.now.index c.args.settings.now.next c.args.pairs.now c.loop-i.i c.loop-i.settings c.index-pairs-i.result c.loop-i.invariant (omega arith) c.index-pairs-i.is
    c.solve.new.settings (rw c.in-Further.is at c.in_ok-turned.ensures)
