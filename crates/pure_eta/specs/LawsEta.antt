-- Laws of eta-normal forms and of long forms.
use Rattle.std.specs.Prelude.{◌≡◌, ℕ, List, [], ◌++◌, length}
use Rattle.pure_definitions.specs.Types.Typ.{Typ, arrow}
use Rattle.pure_definitions.specs.Terms.Term.{Term, Free, Bound, Abs, App}
use Rattle.pure_definitions.specs.Terms.Bounds.{lift_term}
use Rattle.pure_definitions.specs.Terms.Typing.{HasType}
use Rattle.pure_definitions.specs.Declarations.Decl.{Decl}
use Rattle.pure_definitions.specs.Declarations.Certified.{HasCertifiedParts, IsCertified}
use Rattle.pure_definitions.specs.Reduction.Beta.{IsBetaNormal}
use Rattle.pure_definitions.specs.Reduction.Eta.{EtaReduces, IsEtaNormal, IsEtaNormalForm, IsSaturated, HasSaturatedParts, IsLongForm}
use Rattle.pure_term_laws.specs.LawsExamples.{i}

-- Each term has an eta-normal form.
abbrev pub EachTermHasEtaNormalForm : Type 0
EachTermHasEtaNormalForm = (t : Term) → (u : Term) × IsEtaNormalForm t u

-- Each beta-normal term that has a type under no binders has a long form.
abbrev pub EachTypedNormalTermHasLongForm : Type 0
EachTypedNormalTermHasLongForm = (t : Term) (T : Typ) → HasType [] t T → IsBetaNormal t → (u : Term) × IsLongForm t u

-- A long form is its own long form.
abbrev pub LongFormOfLongForm : Type 0
LongFormOfLongForm = (t u : Term) → IsLongForm t u → IsLongForm u u

-- A term and what it reduces to by eta steps have the same long form, and so have two terms that reduce to the same.
abbrev pub LongFormOfReduct : Type 0
LongFormOfReduct = (t v u : Term) → IsLongForm t u → EtaReduces t v → IsLongForm v u

abbrev pub LongFormsOfJoined : Type 0
LongFormsOfJoined = (t u v w n : Term) → IsLongForm t u → IsLongForm v w → EtaReduces t n → EtaReduces v n → u ≡ w

-- A long form has the term's eta-normal form.
abbrev pub EtaNormalFormOfLongForm : Type 0
EtaNormalFormOfLongForm = (t u n : Term) → IsLongForm t u → IsEtaNormalForm t n → IsEtaNormalForm u n

-- Eta steps keep the type, certified parts and certified terms.
abbrev pub StepsKeepType : Type 0
StepsKeepType = (bs : List Typ) (t u : Term) (T : Typ) → EtaReduces t u → HasType bs t T → HasType bs u T

abbrev pub StepsKeepParts : Type 0
StepsKeepParts = (ds : List Decl) (t u : Term) → EtaReduces t u → HasCertifiedParts ds t → HasCertifiedParts ds u

abbrev pub StepsKeepCertified : Type 0
StepsKeepCertified = (ds : List Decl) (t u : Term) → EtaReduces t u → IsCertified ds t → IsCertified ds u

-- Eta steps keep a term beta-normal.
abbrev pub StepsKeepBetaNormal : Type 0
StepsKeepBetaNormal = (t u : Term) → EtaReduces t u → IsBetaNormal t → IsBetaNormal u

-- The long form of a certified term is certified.
abbrev pub LongFormIsCertified : Type 0
LongFormIsCertified = (ds : List Decl) (t u : Term) → IsLongForm t u → IsCertified ds t → IsCertified ds u

-- A lifted term has the term's eta steps; and it is eta-normal where the term is.
abbrev pub StepsOfLift : Type 0
StepsOfLift = (by from : ℕ) (t u : Term) → EtaReduces t u → EtaReduces (lift_term by from t) (lift_term by from u)

abbrev pub EtaNormalOfLift : Type 0
EtaNormalOfLift = (by from : ℕ) (t : Term) → IsEtaNormal t → IsEtaNormal (lift_term by from t)

-- Lifting over further binders keeps that a term, or its parts, have as many abstractions as their types have arrows. (A long form has no loose bound variable, so lifting leaves it as it is.)
abbrev pub SaturatedOfLift : Type 0
SaturatedOfLift = (bs ds cs : List Typ) (n by : ℕ) (t : Term) → n ≡ length bs → by ≡ length ds → IsSaturated (bs ++ cs) t → IsSaturated (bs ++ (ds ++ cs)) (lift_term by n t)

abbrev pub SaturatedPartsOfLift : Type 0
SaturatedPartsOfLift = (bs ds cs : List Typ) (n by : ℕ) (t : Term) → n ≡ length bs → by ≡ length ds → HasSaturatedParts (bs ++ cs) t → HasSaturatedParts (bs ++ (ds ++ cs)) (lift_term by n t)

-- The variable `v :: (i => i) => i` has the long form `%x. v (%y. x y)`: its argument, of the type `i => i`, is expanded too.
abbrev pub ExpandedArgumentExample : Type 0
ExpandedArgumentExample = let v = Free 42 (arrow (arrow i i) i) in IsLongForm v (Abs (arrow i i) (App v (Abs i (App (Bound 1) (Bound 0)))))
