-- Laws of long forms, and of reduction under maps.
use Rattle.std.specs.Prelude.{◌≡◌, ◌↔◌, []}
use Rattle.pure_definitions.specs.Types.Typ.{Typ, arrow}
use Rattle.pure_definitions.specs.Terms.Term.{Term, Bound, Abs, App}
use Rattle.pure_definitions.specs.Terms.Typing.{HasType}
use Rattle.pure_definitions.specs.Terms.Bounds.{Occurs}
use Rattle.pure_definitions.specs.Terms.Conditions.{IsVariable}
use Rattle.pure_definitions.specs.Terms.Subst.{term_instance, IsTypeRespecting}
use Rattle.pure_definitions.specs.Reduction.Eta.{EtaReduces, IsLongForm}
use Rattle.pure_term_laws.specs.LawsMaps.{AreImagesClosed}
use Rattle.pure_term_laws.specs.LawsExamples.{i, f}
use Rattle.pure_reduction.specs.Steps.{BetaReduces}
use Rattle.pure_reduction.specs.LongForms.{HasLongForm, HaveOneLongForm}

-- A term has one long form at most, and a term that is typed under no binders has one.
abbrev pub OneLongFormOfTerm : Type 0
OneLongFormOfTerm = (t u v : Term) → HasLongForm t u → HasLongForm t v → u ≡ v

abbrev pub TypedTermHasLongForm : Type 0
TypedTermHasLongForm = (t : Term) (T : Typ) → HasType [] t T → (u : Term) × HasLongForm t u

-- A long form has the term's type.
abbrev pub LongFormKeepsType : Type 0
LongFormKeepsType = (t u : Term) (T : Typ) → HasType [] t T → HasLongForm t u → HasType [] u T

-- A normal term has the long form that it has as a normal term.
abbrev pub LongFormOfNormal : Type 0
LongFormOfNormal = (t u : Term) → IsLongForm t u → HasLongForm t u

-- A term has the long form of what beta steps lead to; and, where it is typed, of what eta steps lead to.
abbrev pub LongFormOfBetaReduct : Type 0
LongFormOfBetaReduct = (t v u : Term) → BetaReduces t v → HasLongForm t u ↔ HasLongForm v u

abbrev pub LongFormOfEtaReduct : Type 0
LongFormOfEtaReduct = (t v u : Term) (T : Typ) → HasType [] t T → EtaReduces t v → HasLongForm t u ↔ HasLongForm v u

-- Maps whose images have no loose bound variables keep steps.
abbrev pub BetaStepsUnderMaps : Type 0
BetaStepsUnderMaps = (typs : Typ → Typ) (terms : Term → Term) → AreImagesClosed terms → (t u : Term) → BetaReduces t u
    → BetaReduces (term_instance typs terms t) (term_instance typs terms u)

abbrev pub EtaStepsUnderMaps : Type 0
EtaStepsUnderMaps = (typs : Typ → Typ) (terms : Term → Term) → AreImagesClosed terms → (t u : Term) → EtaReduces t u
    → EtaReduces (term_instance typs terms t) (term_instance typs terms u)

-- Under type-respecting maps a term has a long form exactly where its own long form has one, and the two are the same.
abbrev pub LongFormUnderMap : Type 0
LongFormUnderMap = (typs : Typ → Typ) (terms : Term → Term) → IsTypeRespecting typs terms → (t u w : Term) → HasLongForm t u
    → HasLongForm (term_instance typs terms t) w ↔ HasLongForm (term_instance typs terms u) w

-- A type-respecting map and another give a typed term instances with one long form, where the two images of each variable in it have one.
abbrev pub SameUnderMaps : Type 0
SameUnderMaps = (typs : Typ → Typ) (terms others : Term → Term) → IsTypeRespecting typs terms → (t : Term) (T : Typ) → HasType [] t T
    → ((v : Term) → IsVariable v → Occurs v t → HaveOneLongForm (terms v) (others v)) → HaveOneLongForm (term_instance typs terms t) (term_instance typs others t)

-- `(%x. x) f` has the long form `%x. f x`.
abbrev pub LongFormOfRedexExample : Type 0
LongFormOfRedexExample = HasLongForm (App (Abs (arrow i i) (Bound 0)) f) (Abs i (App f (Bound 0)))
