use Rattle.pure_theory.proofs.CertifiedLaws.{below_same, handed_on}
use Rattle.pure_theory.proofs.cthm.Cthm.transfer.Goals as goal

pub invariant_of-result : goal.invariant_of-result
invariant_of-result c = rw (c.in_ok-stage.ensures, c.in_ok-thm.ensures) (handed_on c.theory-own.result.now _ _ _ _ (rw (← c.self.view_is) at c.theory-own.ensures) c.deref-other.ensures c.content_is_sound.ensures c.in_default.ensures c.self.invariant)

pub returns-clause-below : goal.returns-clause-below
returns-clause-below c = below_same c.theory-own.result.now _ _ _ c.theory-own.ensures c.deref-other.ensures c.in_default.ensures
