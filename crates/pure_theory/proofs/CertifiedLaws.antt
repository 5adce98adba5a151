-- A theorem that is handed on to a theory which has each declaration of its own.
use Rattle.std.proofs.Common.{◌≡◌, sym, subst}
use Rattle.pure_logic.specs.Content.{Content, IsBelow}
use Rattle.pure_logic.specs.Derivable.{Theorem, IsDerivable}
use Rattle.pure_logic.proofs.WeakeningLaws.{weakening_of_derivable}
use Rattle.pure_theory.specs.Stage.{IsSound}

pub below_same : (P Q R S : Content) → P ≡ Q → S ≡ R → IsBelow P S → IsBelow Q R
below_same P Q R S p s below = subst (λ C. IsBelow C R) p (subst (λ C. IsBelow P C) s below)

pub handed_on : (P Q R S : Content) (th : Theorem) → P ≡ Q → S ≡ R → IsSound P → IsBelow P S → IsDerivable Q th → IsDerivable R th
handed_on P Q R S th p s sound below derivable =
    subst (λ C. IsDerivable C th) s (weakening_of_derivable P S sound.content below th (subst (λ C. IsDerivable C th) (sym p) derivable))
