-- Equations from a term, and variables as terms that may be put in.
use Rattle.std.proofs.Common.{◌≡◌, subst}
use Rattle.pure_kernel.specs.Definitions.Types.Typ.{Typ}
use Rattle.pure_kernel.specs.Definitions.Terms.Term.{Term, Free, Var}
use Rattle.pure_kernel.specs.Definitions.Terms.Bounds.{IsClosed}
use Rattle.pure_kernel.specs.Definitions.Terms.Conditions.{IsVariable}
use Rattle.pure_kernel.specs.Logic.Connectives.{eq}
use Rattle.pure_kernel.specs.Logic.Derivable.{Theorem}
use Rattle.pure_rewrite.specs.Rewritten.{IsFrom}

pub from-left : (th : Theorem) (T : Typ) (left t u : Term) → th.prop ≡ eq T left u → left ≡ t → IsFrom t th
from-left th T left t u is same = (T, u, subst (λ x. th.prop ≡ eq T x u) same is)

pub variable-closed : (x : Term) → IsVariable x → IsClosed x
variable-closed (Free x T) h = tt
variable-closed (Var x i T) h = tt
variable-closed _ h = absurd h
