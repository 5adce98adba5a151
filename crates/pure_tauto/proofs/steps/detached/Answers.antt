use Rattle.std.proofs.Common.{sym, subst}
use Rattle.pure_tauto.specs.Decided.{AreDerivable}
use Rattle.pure_tauto.proofs.steps.detached.Goals as goal

pub detaching-init : goal.detaching-init
detaching-init g c = λ q h x m. h x (c.in_ok-all.ensures x m)

pub detaching-preserved : goal.detaching-preserved
detaching-preserved g c = λ q h. c.in_ok-all-2.ensures q (subst (AreDerivable (g.B.Base.content c.args.thy.now)) (sym c.deref-in-detaching.ensures.value) (c.detaching.invariant q h))
