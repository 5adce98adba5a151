-- What the rules of simplification answer, each for itself.
use Rattle.std.specs.Prelude.{◌≡◌, ◌≢◌, ℕ, [], true, false, Option, Some, None}
use Rattle.pure_definitions.specs.Types.Typ.{Typ}
use Rattle.pure_definitions.specs.Terms.Term.{Term, Const}
use Rattle.pure_definitions.specs.Terms.Bounds.{Occurs}
use Rattle.pure_definitions.specs.Terms.Typing.{HasType}
use Rattle.pure_definitions.specs.Terms.Subst.{term_variable}
use Rattle.pure_definitions.specs.Reduction.Eta.{IsEtaNormalForm}
use Rattle.pure_unify_definitions.specs.Firm.{occurs_firmly}
use Rattle.pure_unify_definitions.specs.Treatment as rules
use Rattle.pure_unify_definitions.specs.Treatment.{IsBare, IsBareSide, AreOfOneTyp, AreApart, IsTreatment}
use Rattle.pure_unify_steps.specs.declared.treat.Treatment.{Treatment}
use Rattle.pure_unify_steps.specs.declared.treat.Treatment.TheVariants.{Dropped, Differ, Fail, Put, Split, Unify, Leave}

-- the treatment as the rules speak of it
abbrev pub seen : Treatment → rules.Treatment
seen Dropped = rules.Drop
seen (Differ typs) = rules.Differ typs.0 typs.1
seen Fail = rules.Fail
seen (Put b) = rules.Put b
seen Split = rules.Split
seen (Unify typs) = rules.Unify typs.0 typs.1
seen Leave = rules.Leave

-- The term is this bare variable; or none.
abbrev pub IsBareAnswer : Term → Option Term → Type 0
IsBareAnswer t (Some v) = IsBare t v
IsBareAnswer t None = (w : Term) → ¬ IsBare t w

-- The bare variable against the other side: it occurs there firmly; or not at all, and is set; or the rule doesn't apply.
abbrev pub IsAgainst : (v other : Term) → Option Treatment → Type 0
IsAgainst v other None = (occurs_firmly v other ≡ false) × Occurs v other
IsAgainst v other (Some Fail) = occurs_firmly v other ≡ true
IsAgainst v other (Some (Put b)) = (term_variable b ≡ v) × (¬ Occurs v other) × IsEtaNormalForm other b.image
IsAgainst v other (Some _) = ⊥

-- The rule for bare variables gives the treatment of sides of one type; or it doesn't apply.
abbrev pub IsVariableAnswer : (l r : Term) → Option Treatment → Type 0
IsVariableAnswer l r (Some how) = AreOfOneTyp l r → IsTreatment l r (seen how)
IsVariableAnswer l r None = (v other : Term) → IsBareSide l r v other → (occurs_firmly v other ≡ false) × Occurs v other

-- The types of the sides, where they differ; or they are of one type.
abbrev pub AreCompared : (l r : Term) → Option (Typ × Typ) → Type 0
AreCompared l r (Some typs) = HasType [] l typs.0 × HasType [] r typs.1 × (typs.0 ≢ typs.1)
AreCompared l r None = (T : Typ) × HasType [] l T × HasType [] r T

-- The term is a constant.
abbrev pub IsConstant : Term → Type 0
IsConstant (Const c T) = Unit {0}
IsConstant _ = ⊥

-- the type that is written with a constant
abbrev pub IsConstantTyp : Term → Typ → Type 0
IsConstantTyp t T = (c : ℕ) × (t ≡ Const c T)

-- The treatment of rigid sides by their heads.
abbrev pub IsHeadsTreatment : (h k : Term) → Treatment → Type 0
IsHeadsTreatment h k Split = h ≡ k
IsHeadsTreatment h k (Unify typs) = (c : ℕ) × (h ≡ Const c typs.0) × (k ≡ Const c typs.1) × (typs.0 ≢ typs.1)
IsHeadsTreatment h k Fail = AreApart h k
IsHeadsTreatment h k _ = ⊥
