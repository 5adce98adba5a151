-- The procedure of unification: pairs in order, of each the first place at which its sides differ, until there is none.
use Rattle.std.specs.Prelude.{◌≡◌, ℕ, ◌+◌, List, [], ◌∷◌, ◌++◌, Option, Some, None, ◌&&◌, nat_eq, if◌then◌else◌, ◌↔◌}
use Rattle.std.specs.List.Sorted.{IsStrictlyIncreasing}
use Rattle.pure_text.specs.Lists.{IsIn, Each}
use Rattle.pure_definitions.specs.Types.Typ.{Typ, TVar, Con, Typs, also, typs_count, typ_eq}
use Rattle.pure_definitions.specs.Types.Occurs.{OccursInTyp}
use Rattle.pure_definitions.specs.Types.Order.{Algebra, IsClassBelow, HasClassBelow, IsOfClass, IsOfSort}
use Rattle.pure_definitions.specs.Terms.Subst.{TypBind, typ_instance}
use Rattle.pure_tunify.specs.declared.pair.TypPair.{TypPair}
use Rattle.pure_tunify.specs.Unifiers.{IsSubstitution}
use Rattle.pure_tunify.specs.Occurrences.{schematics}
use Rattle.pure_tunify.specs.Asks.{HasNoInstance}
use Rattle.pure_tunify.specs.Steps.{pair, setting, instance_pair}
use Rattle.pure_tunify.specs.Settings.{composed, bind, AreWithinLimits}

-- the first of two places, where there is one
abbrev pub sooner : Option TypPair → Option TypPair → Option TypPair
sooner None second = second
sooner (Some p) second = Some p

-- The first place in preorder at which two types have different nodes: the parts that stand there. The node of a constructor is its name with its number of arguments.
abbrev mutual
  pub difference : Typ → Typ → Option TypPair
  difference (Con k ts) (Con l us) = if nat_eq k l && nat_eq (typs_count ts) (typs_count us) then differences ts us else Some (pair (Con k ts) (Con l us))
  difference t u = if typ_eq t u then None else Some (pair t u)

  pub differences : Typs → Typs → Option TypPair
  differences (also t ts) (also u us) = sooner (difference t u) (differences ts us)
  differences _ _ = None

-- the same of the sides of a pair
abbrev pub place_of : TypPair → Option TypPair
place_of p = difference p.left p.right

-- The type is a schematic type variable.
abbrev pub IsSchematic : Typ → Type 0
IsSchematic (TVar x i s) = Unit {0}
IsSchematic _ = ⊥

-- At the place this variable and this other side are looked at: the left side first, and the right only where the left is no schematic variable.
pub data Shows : TypPair → (name index : ℕ) → (sort : List ℕ) → (other : Typ) → Type 0 where
  left_side : (x i : ℕ) (s : List ℕ) (t : Typ) → Shows (pair (TVar x i s) t) x i s t
  right_side : (x i : ℕ) (s : List ℕ) (t : Typ) → ¬ IsSchematic t → Shows (pair t (TVar x i s)) x i s t

-- The class is needed of the variable for the type to be of the sort: each substitution under which the type is of the sort gives the variable an image of the class. The classes of its own sort are among them.
abbrev pub IsNeeded : Algebra → Typ → (sort : List ℕ) → (variable : Typ) → (class : ℕ) → Type 0
IsNeeded A t s v c = (typs : Typ → Typ) → IsSubstitution A typs → IsOfSort A (typ_instance typs t) s → IsOfClass A (typs v) c

-- No class is needed of the variable that it isn't of: its own sort is below what the sort asks of it.
abbrev pub NeedsNoMore : Algebra → Typ → (sort : List ℕ) → (variable : Typ) → Type 0
NeedsNoMore A t s v = (c : ℕ) → IsNeeded A t s v c → IsOfClass A v c

-- The sort is the reduced union of the variable's own and of what is asked of it: of all classes that are needed, those that no other is below.
pub record IsNeededSort (A : Algebra) (t : Typ) (s : List ℕ) (v : Typ) (u : List ℕ) : Type 0 where
  pub needed : (c : ℕ) → HasClassBelow A u c ↔ IsNeeded A t s v c
  pub reduced : (b c : ℕ) → IsIn b u → IsIn c u → IsClassBelow A b c → b ≡ c
  pub ascend : IsStrictlyIncreasing u

-- The variable is the first, in order of occurrence, whose own sort isn't below what the sort asks of it.
pub record IsFirstToNarrow (A : Algebra) (t : Typ) (s : List ℕ) (v : Typ) : Type 0 where
  pub front : List Typ
  pub back : List Typ
  pub stands : schematics t ≡ front ++ v ∷ back
  pub before : Each (NeedsNoMore A t s) front
  pub here : ¬ NeedsNoMore A t s v

-- The type is narrowed to the sort: as long as it isn't of it, the first variable to narrow is replaced by a fresh one. The settings, the next name, and the type that comes of it.
pub data Narrows (A : Algebra) (index : ℕ) (s : List ℕ) : ℕ → Typ → List TypBind → ℕ → Typ → Type 0 where
  fits : {n : ℕ} {t : Typ} → IsOfSort A t s → Narrows A index s n t [] n t
  replace : {n m : ℕ} {t u : Typ} {more : List TypBind} (y j : ℕ) (q r : List ℕ) → IsFirstToNarrow A t s (TVar y j q) → IsNeededSort A t s (TVar y j q) r
      → Narrows A index s (n + 1) (typ_instance (setting y j q (TVar n index r)) t) more m u → Narrows A index s n t (bind y j q (TVar n index r) ∷ more) m u

-- The treatment of a place: the other side, in which the variable doesn't occur, is narrowed to the variable's sort, and the variable becomes it.
pub record IsTreated (A : Algebra) (index n : ℕ) (p : TypPair) (more : List TypBind) (m : ℕ) : Type 0 where
  pub name : ℕ
  pub number : ℕ
  pub sort : List ℕ
  pub other : Typ
  pub image : Typ
  pub narrowed : List TypBind
  pub shown : Shows p name number sort other
  pub free : ¬ OccursInTyp (TVar name number sort) other
  pub narrows : Narrows A index sort n other narrowed m image
  pub are : more ≡ narrowed ++ bind name number sort image ∷ []

-- In every other case the place has no unifier: no side is a schematic variable, the variable occurs in the other side, or no instance of the other side is of the variable's sort.
pub data IsBlocked (A : Algebra) : TypPair → Type 0 where
  rigid : {p : TypPair} → ¬ IsSchematic p.left → ¬ IsSchematic p.right → IsBlocked A p
  occurring : {p : TypPair} (x i : ℕ) (s : List ℕ) (t : Typ) → Shows p x i s t → OccursInTyp (TVar x i s) t → IsBlocked A p
  sortless : {p : TypPair} (x i : ℕ) (s : List ℕ) (t : Typ) → Shows p x i s t → HasNoInstance A t s → IsBlocked A p

-- One pair: the first place is treated, until there is none. The settings, and the next name.
pub data Equalises (A : Algebra) (index : ℕ) : ℕ → TypPair → List TypBind → ℕ → Type 0 where
  equal : {n : ℕ} {p : TypPair} → place_of p ≡ None → Equalises A index n p [] n
  treat : {n k m : ℕ} {p : TypPair} {first more : List TypBind} (place : TypPair) → place_of p ≡ Some place → IsTreated A index n place first k
      → Equalises A index k (instance_pair (composed first) p) more m → Equalises A index n p (first ++ more) m

-- One pair comes to a place that has no unifier.
pub data Blocks (A : Algebra) (index : ℕ) : ℕ → TypPair → Type 0 where
  blocked : {n : ℕ} {p : TypPair} (place : TypPair) → place_of p ≡ Some place → IsBlocked A place → Blocks A index n p
  later : {n k : ℕ} {p : TypPair} {first : List TypBind} (place : TypPair) → place_of p ≡ Some place → IsTreated A index n place first k
      → Blocks A index k (instance_pair (composed first) p) → Blocks A index n p

-- what unification comes to: the settings and the first name that isn't used, or the number of the pair that decides
pub data Outcome : Type 0 where
  Unified : (sets : List TypBind) → (next : ℕ) → Outcome
  NotTyped : (at : ℕ) → Outcome
  TooBig : (at : ℕ) → Outcome

-- The pairs from a number on come to this, under the settings so far. The first pair that has no unifier, or passes the limits, decides.
pub data Unifies (A : Algebra) (index : ℕ) : (at n : ℕ) → List TypBind → List TypPair → Outcome → Type 0 where
  over : {at n : ℕ} {sets : List TypBind} → Unifies A index at n sets [] (Unified sets n)
  no_typing : {at n : ℕ} {sets : List TypBind} {p : TypPair} {ps : List TypPair} → Blocks A index n (instance_pair (composed sets) p) → Unifies A index at n sets (p ∷ ps) (NotTyped at)
  big : {at n m : ℕ} {sets more : List TypBind} {p : TypPair} {ps : List TypPair} → Equalises A index n (instance_pair (composed sets) p) more m → ¬ AreWithinLimits (sets ++ more) m
      → Unifies A index at n sets (p ∷ ps) (TooBig at)
  next : {at n m : ℕ} {sets more : List TypBind} {p : TypPair} {ps : List TypPair} {outcome : Outcome} → Equalises A index n (instance_pair (composed sets) p) more m → AreWithinLimits (sets ++ more) m
      → Unifies A index (at + 1) m (sets ++ more) ps outcome → Unifies A index at n sets (p ∷ ps) outcome
