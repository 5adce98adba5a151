-- Of what is asked of variables one after the other: all that is asked of one variable, and the first one that has to be narrowed.
use Rattle.std.specs.Prelude.{◌≡◌, ◌⊎◌, ℕ, List, ◌∷◌, ◌++◌, Option, Some, None, MatchOption}
use Rattle.std.specs.BTreeMap.{BTreeMap, get, Updates}
use Rattle.std.specs.List.Sorted.{IsStrictlyIncreasing}
use Rattle.pure_text.specs.Lists.{IsIn, Each, AnyOf}
use Rattle.pure_typ.specs.SortUnion.{IsSortUnion}
use Rattle.pure_definitions.specs.Types.Typ.{Typ, TVar}
use Rattle.pure_definitions.specs.Types.Order.{Algebra, IsClassBelow, HasClassBelow, IsSortBelow}
use Rattle.pure_definitions.specs.Models.Comparison.{typ_cmp}
use Rattle.pure_tunify.specs.declared.asks.Asked.{Asked}

-- the variable of which a sort is asked
abbrev pub asked_variable : Asked → Typ
asked_variable a = TVar a.name a.index a.sort

-- The class is asked of the variable somewhere in the list.
abbrev pub IsAskedClass : Typ → List Asked → ℕ → Type 0
IsAskedClass v asked c = AnyOf (λ a. (asked_variable a ≡ v) × IsIn c a.asked) asked

-- The class is one of the variable's own, or is asked of it somewhere in the list.
abbrev pub IsOwnOrAsked : List Asked → Asked → ℕ → Type 0
IsOwnOrAsked asked a c = IsIn c a.sort ⊎ IsAskedClass (asked_variable a) asked c

-- Each class that is asked of the variable is above its own sort.
abbrev pub AsksNoMore : Algebra → List Asked → Asked → Type 0
AsksNoMore A asked a = (c : ℕ) → IsAskedClass (asked_variable a) asked c → HasClassBelow A a.sort c

-- These are the variable's own classes and all that are asked of it, but for such as others of them are below.
pub record IsAllAsked (A : Algebra) (asked : List Asked) (a : Asked) (all : List ℕ) : Type 0 where
  pub among : (c : ℕ) → IsIn c all → IsOwnOrAsked asked a c
  pub below : (c : ℕ) → IsOwnOrAsked asked a c → HasClassBelow A all c

-- Of each variable of which more is asked than its own sort it is known what, and of each other that no more is.
abbrev pub AreKnown : Algebra → List Asked → BTreeMap Typ (List ℕ) → Type 0
AreKnown A asked known = (a : Asked) → MatchOption (get typ_cmp known (asked_variable a)) (AsksNoMore A asked a) (IsAllAsked A asked a)

-- the classes that are known to be asked of a variable, or its own
abbrev pub classes_known : Asked → Option (List ℕ) → List ℕ
classes_known a None = a.sort
classes_known a (Some all) = all

-- What is asked of the variable here is known, too, unless it is no more than its own sort.
abbrev pub IsKnownHere : Algebra → Asked → (old new : BTreeMap Typ (List ℕ)) → Type 0
IsKnownHere A a old new = ((new ≡ old) × IsSortBelow A a.sort a.asked)
    ⊎ ((all : List ℕ) × IsSortUnion (classes_known a (get typ_cmp old (asked_variable a))) a.asked all × Updates typ_cmp old new (asked_variable a) (Some all))

-- The sort is the reduced union of the variable's own and all that is asked of it.
pub record IsUnionAsked (A : Algebra) (asked : List Asked) (a : Asked) (u : List ℕ) : Type 0 where
  pub above : (c : ℕ) → HasClassBelow A u c → (b : ℕ) × IsOwnOrAsked asked a b × IsClassBelow A b c
  pub below : (b : ℕ) → IsOwnOrAsked asked a b → HasClassBelow A u b
  pub reduced : (b c : ℕ) → IsIn b u → IsIn c u → IsClassBelow A b c → b ≡ c
  pub ascend : IsStrictlyIncreasing u

-- The first variable of the list of which more is asked, with its own sort and all that is asked of it reduced.
pub record IsFirstAsking (A : Algebra) (asked : List Asked) (found : Asked) : Type 0 where
  pub front : List Asked
  pub back : List Asked
  pub first : Asked
  pub stands : asked ≡ front ++ first ∷ back
  pub same : asked_variable found ≡ asked_variable first
  pub before : Each (AsksNoMore A asked) front
  pub here : ¬ AsksNoMore A asked first
  pub union : IsUnionAsked A asked first found.asked
