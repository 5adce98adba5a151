-- Matches of a declared type with a type, and the sorts of what they put for its variables.
use Rattle.std.specs.Prelude.{◌≡◌, ◌↔◌, ℕ, Bool, List, [], ◌∷◌, ◌++◌, map, MatchBool}
use Rattle.pure_text.specs.Lists.{IsIn, Each}
use Rattle.pure_definitions.specs.Types.Typ.{Typ, TFree, TVar, Con, Typs, none, also}
use Rattle.pure_definitions.specs.Types.Order.{Algebra, IsOfSort}
use Rattle.pure_definitions.specs.Terms.Subst.{TypBind, typ_variable, KeepsFixedTyps, AreSortRespecting}
use Rattle.pure_definitions.specs.Declarations.Certified.{IsMatch}

-- No type map makes the second type of the first.
abbrev pub HasNoMatch : (declared typ : Typ) → Type 0
HasNoMatch declared typ = (typs : Typ → Typ) → ¬ IsMatch typs declared typ

-- the schematic type variables of the type in preorder, each as often as it stands there
abbrev mutual
  pub schematics : Typ → List Typ
  schematics (TFree x s) = []
  schematics (TVar x i s) = TVar x i s ∷ []
  schematics (Con k ts) = all_schematics ts

  pub all_schematics : Typs → List Typ
  all_schematics none = []
  all_schematics (also t ts) = schematics t ++ all_schematics ts

-- The image of the schematic type variable is of its sort.
abbrev pub HasImageOfSort : Algebra → (Typ → Typ) → Typ → Type 0
HasImageOfSort A typs (TVar x i s) = IsOfSort A (typs (TVar x i s)) s
HasImageOfSort A typs _ = Unit {0}

-- Of these variables the first whose image isn't of its sort has the name.
pub record IsFirstFailing (A : Algebra) (typs : Typ → Typ) (variables : List Typ) (name : ℕ) : Type 0 where
  pub front : List Typ
  pub index : ℕ
  pub sort : List ℕ
  pub rest : List Typ
  pub is : variables ≡ front ++ TVar name index sort ∷ rest
  pub before : Each (HasImageOfSort A typs) front
  pub fails : ¬ HasImageOfSort A typs (TVar name index sort)

-- The second type is made of the declared one by a type map, and of the declared type's variables the first whose image isn't of its sort has the name.
pub record IsSortFault (A : Algebra) (declared typ : Typ) (name : ℕ) : Type 0 where
  pub typs : Typ → Typ
  pub matches : IsMatch typs declared typ
  pub first : IsFirstFailing A typs (schematics declared) name

-- The type map gives the variable of each entry its image.
abbrev pub Gives : (Typ → Typ) → List TypBind → Type 0
Gives typs binds = Each (λ b. typs (typ_variable b) ≡ b.image) binds

-- Of the entries the first whose image isn't of its variable's sort is for a variable of the name.
pub record IsFirstUnsorted (A : Algebra) (binds : List TypBind) (name : ℕ) : Type 0 where
  pub front : List TypBind
  pub entry : TypBind
  pub rest : List TypBind
  pub is : binds ≡ front ++ entry ∷ rest
  pub before : AreSortRespecting A front
  pub fails : ¬ IsOfSort A entry.image entry.sort
  pub named : entry.name ≡ name

-- The entries are for the variables of the list, in the order in which these first stand there.
pub record AreInOrder (binds : List TypBind) (variables : List Typ) : Type 0 where
  pub all : Each (λ v. IsIn v (map typ_variable binds)) variables
  pub first : (front rest : List TypBind) (b : TypBind) → binds ≡ front ++ b ∷ rest
      → (before behind : List Typ) × (variables ≡ before ++ typ_variable b ∷ behind) × Each (λ v. IsIn v (map typ_variable front)) before

-- The entries have grown by what the property says, which speaks of these further variables: a map that gives all entries is one that gave the old ones and has the property.
pub record IsGrown (property : (Typ → Typ) → Type 0) (variables : List Typ) (old new : List TypBind) : Type 0 where
  pub exactly : (typs : Typ → Typ) → KeepsFixedTyps typs → Gives typs new ↔ (Gives typs old × property typs)
  pub in_order : (earlier : List Typ) → AreInOrder old earlier → AreInOrder new (earlier ++ variables)

-- No map that gives the entries has the property.
abbrev pub IsExcluded : ((Typ → Typ) → Type 0) → List TypBind → Type 0
IsExcluded property old = (typs : Typ → Typ) → KeepsFixedTyps typs → Gives typs old → ¬ property typs

-- The answer whether a map that gives the entries may have the property: if so, the entries have grown by it.
abbrev pub IsMatching : (property : (Typ → Typ) → Type 0) → (variables : List Typ) → (old new : List TypBind) → Bool → Type 0
IsMatching property variables old new matches = MatchBool matches (IsGrown property variables old new) (IsExcluded property old)
