-- Unification by steps on lists of pairs: a step replaces the pairs by others, under a map that it sets.
use Rattle.std.specs.Prelude.{◌≡◌, ◌≢◌, ◌⊎◌, ℕ, ◌+◌, List, [], ◌∷◌, ◌++◌, map}
use Rattle.pure_text.specs.Lists.{Each}
use Rattle.pure_definitions.specs.Types.Typ.{Typ, TFree, TVar, Con, Typs, also, typs_count}
use Rattle.pure_definitions.specs.Types.Occurs.{OccursInTyp, OccursInTyps}
use Rattle.pure_definitions.specs.Types.Order.{Algebra, IsOfSort}
use Rattle.pure_definitions.specs.Terms.Subst.{typ_instance, typ_image}
use Rattle.pure_tunify.specs.declared.pair.TypPair.{TypPair}
use Rattle.pure_tunify.specs.Unifiers.{IsSubstitution, IsUnifier, IsOld, IsOldPair, AreTogether, IsFresh}
use Rattle.pure_tunify.specs.Asks.{HasNoInstance, IsMeet}

-- the pair of two types
abbrev pub pair : Typ → Typ → TypPair
pair t u = record { left = t; right = u }

-- the pairs of the types at each place of two lists
abbrev pub pairs_of : Typs → Typs → List TypPair
pairs_of (also t ts) (also u us) = pair t u ∷ pairs_of ts us
pairs_of _ _ = []

-- the map that puts a type for one schematic variable
abbrev pub setting : (name index : ℕ) → (sort : List ℕ) → Typ → Typ → Typ
setting x i s t = typ_image (record { name = x; index = i; sort = s; image = t } ∷ [])

-- the pair under a map
abbrev pub instance_pair : (Typ → Typ) → TypPair → TypPair
instance_pair typs p = pair (typ_instance typs p.left) (typ_instance typs p.right)

-- Each substitution under which the type is of the first sort gives the variable an image of the second.
abbrev pub Asks : Algebra → Typ → (sort : List ℕ) → (variable : Typ) → List ℕ → Type 0
Asks A t s v r = (typs : Typ → Typ) → IsSubstitution A typs → IsOfSort A (typ_instance typs t) s → IsOfSort A (typs v) r

-- The rules of unification. A step takes the number of the first fresh name and the pairs to the map that it sets, the next number and the pairs that are left.
pub data Steps (A : Algebra) (index : ℕ) : ℕ → List TypPair → (Typ → Typ) → ℕ → List TypPair → Type 0 where
  -- two equal sides
  drop : {n : ℕ} {ps : List TypPair} (t : Typ) → Steps A index n (pair t t ∷ ps) (λ v. v) n ps
  -- one constructor with as many arguments on both sides: the pairs of the arguments, left to right
  decompose : {n : ℕ} {ps : List TypPair} (k : ℕ) (ts us : Typs) → typs_count ts ≡ typs_count us → Steps A index n (pair (Con k ts) (Con k us) ∷ ps) (λ v. v) n (pairs_of ts us ++ ps)
  -- a variable that is looked at on the right
  orient : {n : ℕ} {ps : List TypPair} (t u : Typ) → Steps A index n (pair t u ∷ ps) (λ v. v) n (pair u t ∷ ps)
  -- a variable of the right side from which the left side's sort asks for another sort: a fresh one of the greatest sort below both
  narrow : {n : ℕ} {ps : List TypPair} (x i : ℕ) (s : List ℕ) (t : Typ) (y j : ℕ) (q r u : List ℕ) → OccursInTyp (TVar y j q) t → Asks A t s (TVar y j q) r → IsMeet A q r u
      → Steps A index n (pair (TVar x i s) t ∷ ps) (setting y j q (TVar n index u)) (n + 1) (map (instance_pair (setting y j q (TVar n index u))) (pair (TVar x i s) t ∷ ps))
  -- a variable that doesn't occur on the right, which is of its sort: it is set
  eliminate : {n : ℕ} {ps : List TypPair} (x i : ℕ) (s : List ℕ) (t : Typ) → ¬ OccursInTyp (TVar x i s) t → IsOfSort A t s
      → Steps A index n (pair (TVar x i s) t ∷ ps) (setting x i s t) n (map (instance_pair (setting x i s t)) ps)

-- The first pair has no unifier.
pub data Fails (A : Algebra) : List TypPair → Type 0 where
  -- different constructors, or different numbers of arguments
  clash : {ps : List TypPair} (k l : ℕ) (ts us : Typs) → (k ≢ l) ⊎ (typs_count ts ≢ typs_count us) → Fails A (pair (Con k ts) (Con l us) ∷ ps)
  -- a fixed variable against another, or against a constructor on either side
  fixed : {ps : List TypPair} (x y : ℕ) (s r : List ℕ) → TFree x s ≢ TFree y r → Fails A (pair (TFree x s) (TFree y r) ∷ ps)
  fixed_left : {ps : List TypPair} (x l : ℕ) (s : List ℕ) (us : Typs) → Fails A (pair (TFree x s) (Con l us) ∷ ps)
  fixed_right : {ps : List TypPair} (x k : ℕ) (s : List ℕ) (ts : Typs) → Fails A (pair (Con k ts) (TFree x s) ∷ ps)
  -- a variable that occurs below a constructor, on either side
  occurs : {ps : List TypPair} (x i k : ℕ) (s : List ℕ) (ts : Typs) → OccursInTyps (TVar x i s) ts → Fails A (pair (TVar x i s) (Con k ts) ∷ ps)
  occurs_left : {ps : List TypPair} (x i k : ℕ) (s : List ℕ) (ts : Typs) → OccursInTyps (TVar x i s) ts → Fails A (pair (Con k ts) (TVar x i s) ∷ ps)
  -- a variable of a sort of which no instance of the other side is
  sort : {ps : List TypPair} (x i : ℕ) (s : List ℕ) (t : Typ) → HasNoInstance A t s → Fails A (pair (TVar x i s) t ∷ ps)
  sort_left : {ps : List TypPair} (x i : ℕ) (s : List ℕ) (t : Typ) → HasNoInstance A t s → Fails A (pair t (TVar x i s) ∷ ps)

-- The steps lead to no pairs: the map is that of all steps, one after the other.
pub data Solves (A : Algebra) (index : ℕ) : ℕ → List TypPair → (Typ → Typ) → Type 0 where
  solved : {n : ℕ} → Solves A index n [] (λ v. v)
  step : {n m : ℕ} {ps qs : List TypPair} {first second : Typ → Typ} → Steps A index n ps first m qs → Solves A index m qs second → Solves A index n ps (λ v. typ_instance second (first v))

-- The steps lead to pairs of which the first has no unifier.
pub data Refutes (A : Algebra) (index : ℕ) : ℕ → List TypPair → Type 0 where
  failed : {n : ℕ} {ps : List TypPair} → Fails A ps → Refutes A index n ps
  step_on : {n m : ℕ} {ps qs : List TypPair} {first : Typ → Typ} → Steps A index n ps first m qs → Refutes A index m qs → Refutes A index n ps

-- A step takes unifiers there and back: where none of the pairs has a fresh variable, neither have the pairs that are left; the map is a substitution whose images have no fresh variables,
-- it makes of each unifier of the pairs that are left one of the pairs, and each unifier of the pairs is it and then a unifier of those that are left.
pub record IsReduction (A : Algebra) (index n : ℕ) (ps : List TypPair) (first : Typ → Typ) (m : ℕ) (qs : List TypPair) : Type 0 where
  pub substitution : IsSubstitution A first
  pub left_old : Each (IsOldPair index m) qs
  pub images_old : (x i : ℕ) (s : List ℕ) → ¬ IsFresh index n (TVar x i s) → IsOld index m (first (TVar x i s))
  pub back : (second : Typ → Typ) → IsUnifier A qs second → IsUnifier A ps (λ v. typ_instance second (first v))
  pub forth : (typs : Typ → Typ) → IsUnifier A ps typs → (second : Typ → Typ) × IsUnifier A qs second × AreTogether index n first second typs
