use Rattle.pure_theory.proofs.OnceLaws.{once_turn}
use Rattle.pure_theory.proofs.begin.put_all.Goals as goal

pub loop-other-preserved : goal.loop-other-preserved
loop-other-preserved c = once_turn c.args.theories.now.items c.args.others.now c.loop-other.theories.items _ c.loop-other.other-index c.other-item.result c.loop-other-test.true c.other-item.is c.loop-other.invariant c.in_ok-put_theory.ensures
