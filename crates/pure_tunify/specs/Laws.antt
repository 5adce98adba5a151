-- Laws of unification: a step takes unifiers there and back, what the steps solve is most general, and what they refute has no unifier; and what is asked of variables says which step comes next.
use Rattle.std.specs.Prelude.{ℕ, List}
use Rattle.pure_tunify.specs.declared.asks.Asked.{Asked}
use Rattle.pure_text.specs.Lists.{IsIn, Each}
use Rattle.pure_definitions.specs.Types.Typ.{Typ, TVar}
use Rattle.pure_definitions.specs.Types.Order.{Algebra, IsSortBelow, IsOfSort}
use Rattle.pure_definitions.specs.Terms.Subst.{typ_instance}
use Rattle.pure_tunify.specs.declared.pair.TypPair.{TypPair}
use Rattle.pure_tunify.specs.Unifiers.{IsUnifier, IsOldPair, IsMostGeneral}
use Rattle.pure_tunify.specs.Asks.{AreAsked, HasNoInstance}
use Rattle.pure_tunify.specs.Steps.{Asks, Steps, Fails, Solves, Refutes, IsReduction}

-- Each step takes unifiers there and back.
abbrev pub StepIsReduction : Type 0
StepIsReduction = (A : Algebra) (index n m : ℕ) (ps qs : List TypPair) (first : Typ → Typ) → Each (IsOldPair index n) ps → Steps A index n ps first m qs → IsReduction A index n ps first m qs

-- A step and then a most general unifier of what is left are a most general unifier.
abbrev pub MostGeneralAlongReduction : Type 0
MostGeneralAlongReduction = (A : Algebra) (index n m : ℕ) (ps qs : List TypPair) (first second : Typ → Typ) → IsReduction A index n ps first m qs → IsMostGeneral A index m qs second → IsMostGeneral A index n ps (λ v. typ_instance second (first v))

-- What the steps solve, from pairs without fresh variables, is a most general unifier.
abbrev pub SolvedIsMostGeneral : Type 0
SolvedIsMostGeneral = (A : Algebra) (index n : ℕ) (ps : List TypPair) (typs : Typ → Typ) → Each (IsOldPair index n) ps → Solves A index n ps typs → IsMostGeneral A index n ps typs

-- Pairs of which the first fails have no unifier, and nor have pairs that the steps refute.
abbrev pub FailedHasNoUnifier : Type 0
FailedHasNoUnifier = (A : Algebra) (ps : List TypPair) (typs : Typ → Typ) → Fails A ps → ¬ IsUnifier A ps typs

abbrev pub RefutedHasNoUnifier : Type 0
RefutedHasNoUnifier = (A : Algebra) (index n : ℕ) (ps : List TypPair) (typs : Typ → Typ) → Each (IsOldPair index n) ps → Refutes A index n ps → ¬ IsUnifier A ps typs

-- What stands in the list of what is asked is asked, as the step that narrows a variable wants it.
abbrev pub EachIsAsked : Type 0
EachIsAsked = (A : Algebra) (t : Typ) (s : List ℕ) (asked : List Asked) (a : Asked) → AreAsked A t s asked → IsIn a asked → Asks A t s (TVar a.name a.index a.sort) a.asked

-- Where each variable's own sort is below what is asked of it, the type is of the sort, as the step that sets a variable wants it; and only there.
abbrev pub NothingToNarrow : Type 0
NothingToNarrow = (A : Algebra) (t : Typ) (s : List ℕ) (asked : List Asked) → AreAsked A t s asked → Each (λ a. IsSortBelow A a.sort a.asked) asked → IsOfSort A t s

abbrev pub OnlyThere : Type 0
OnlyThere = (A : Algebra) (t : Typ) (s : List ℕ) (asked : List Asked) → AreAsked A t s asked → IsOfSort A t s → Each (λ a. IsSortBelow A a.sort a.asked) asked

-- What is asked can be met: some instance is of the sort.
abbrev pub AskedHasInstance : Type 0
AskedHasInstance = (A : Algebra) (t : Typ) (s : List ℕ) (asked : List Asked) → AreAsked A t s asked → ¬ HasNoInstance A t s
