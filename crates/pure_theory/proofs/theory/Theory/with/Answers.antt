use Rattle.std.proofs.Common.{refl}
use Rattle.pure_theory.proofs.theory.Theory.with.Goals as goal

pub invariant_of-result : goal.invariant_of-result
invariant_of-result c = rw c.in_ok-ancestors.ensures (rw (← c.self.view_is) at c.requires)

pub returns : goal.returns
returns c = rw (c.in_ok-ancestors.ensures, ← c.self.view_is) refl
