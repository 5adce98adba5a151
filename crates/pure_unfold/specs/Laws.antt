-- Laws of terms in which definitions are unfolded.
use Rattle.std.specs.Prelude.{◌≡◌, List, []}
use Rattle.pure_definitions.specs.Names.{Label}
use Rattle.pure_definitions.specs.Types.Typ.{Typ}
use Rattle.pure_definitions.specs.Types.Order.{Algebra}
use Rattle.pure_definitions.specs.Terms.Term.{Term}
use Rattle.pure_definitions.specs.Declarations.Decl.{algebra_of}
use Rattle.pure_logic.specs.Connectives.{eq}
use Rattle.pure_logic.specs.Content.{Content, IsContent, IsBelow, IsCertifiedOf}
use Rattle.pure_logic.specs.PureContent.{pure_content}
use Rattle.pure_logic.specs.Derivable.{IsDerivable}
use Rattle.pure_unfold.specs.Unfold.{Unfolds, UnfoldsNothing, IsNoDefinition}

-- By one definition a term becomes one term at most; and none where nothing is unfolded, or where it is no definition.
abbrev pub UnfoldsOnce : Type 0
UnfoldsOnce = (A : Algebra) (prop t u v : Term) → Unfolds A prop t u → Unfolds A prop t v → u ≡ v

abbrev pub UnfoldsOrNothing : Type 0
UnfoldsOrNothing = (A : Algebra) (prop t u : Term) → Unfolds A prop t u → ¬ UnfoldsNothing A prop t

abbrev pub UnfoldsByDefinition : Type 0
UnfoldsByDefinition = (A : Algebra) (prop t u : Term) → Unfolds A prop t u → ¬ IsNoDefinition prop

-- The equation of a term and what it becomes by a derivable definition is derivable, and rests on what the definition rests on.
abbrev pub UnfoldedIsDerivable : Type 0
UnfoldedIsDerivable = (Q : Content) → IsContent Q → IsBelow pure_content Q → (rests : List Label) (T : Typ) (prop t u : Term) → IsCertifiedOf Q t T
    → IsDerivable Q (record { hyps = []; pairs = []; prop = prop; rests = rests }) → Unfolds (algebra_of Q.declarations) prop t u
    → IsDerivable Q (record { hyps = []; pairs = []; prop = eq T t u; rests = rests })
