-- Parts of closed terms, and of terms that have a type, are closed.
use Rattle.std.proofs.Common.{◌≡◌, [], subst}
use Rattle.pure_definitions.specs.Types.Typ.{Typ}
use Rattle.pure_definitions.specs.Terms.Term.{Term, Abs, App}
use Rattle.pure_definitions.specs.Terms.Bounds.{IsClosed}
use Rattle.pure_definitions.specs.Terms.Typing.{HasType}
use Rattle.pure_term_laws.proofs.TypingLaws.{typed-closed}
use Rattle.pure_logic.specs.Connectives.{eq}
use Rattle.pure_theorem.specs.Shapes.{IsTyped}
use Rattle.pure_equal.specs.Reduction.{IsRedex}

pub closed-left : (A : Term) (T : Typ) (t u : Term) → A ≡ eq T t u → IsClosed A → IsClosed t
closed-left A T t u is h = let parts : IsClosed (eq T t u) = subst IsClosed is h in parts.0.1

pub closed-right : (A : Term) (T : Typ) (t u : Term) → A ≡ eq T t u → IsClosed A → IsClosed u
closed-right A T t u is h = let parts : IsClosed (eq T t u) = subst IsClosed is h in parts.1

-- the argument of a redex
pub closed-argument : (t b a : Term) → IsTyped t → IsRedex t b a → IsClosed a
closed-argument t b a (U, h) (T, is) =
    let parts : HasType [] (App (Abs T b) a) U = subst (λ u. HasType [] u U) is h in
    typed-closed a parts.0 parts.2
