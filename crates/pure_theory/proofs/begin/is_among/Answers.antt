use Rattle.std.proofs.Common.{sym, ◌∙◌}
use Rattle.pure_theory.proofs.OnceLaws.{any_here, any_next}
use Rattle.pure_theory.proofs.begin.is_among.Goals as goal

pub returns-then-is_same_theory : goal.returns-then-is_same_theory
returns-then-is_same_theory c = sym (any_here c.args.theory c.other-item.result c.args.theories.now c.loop-other.other-index c.loop-other-test.true c.other-item.is (sym c.is_same_theory.ensures ∙ c.if-is_same_theory.true))

pub loop-other-preserved : goal.loop-other-preserved
loop-other-preserved c = any_next c.args.theory c.other-item.result c.args.theories.now c.loop-other.other-index c.loop-other-test.true c.other-item.is c.loop-other.invariant (sym c.is_same_theory.ensures ∙ c.if-is_same_theory.false)
