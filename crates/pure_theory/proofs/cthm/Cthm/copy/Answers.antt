use Rattle.std.proofs.Common.{refl}
use Rattle.pure_theory.proofs.cthm.Cthm.copy.Goals as goal

pub invariant_of-result : goal.invariant_of-result
invariant_of-result c = rw (c.in_ok-stage.ensures, c.in_ok-thm.ensures) c.self.invariant

pub returns : goal.returns
returns c = rw (c.in_ok-stage.ensures, c.in_ok-thm.ensures, ← c.self.view_is) refl
