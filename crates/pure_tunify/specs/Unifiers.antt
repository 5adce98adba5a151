-- Pairs of types, their unifiers, and the most general of them (order-sorted unification; Isabelle/Isar Implementation manual, section 2.1).
use Rattle.std.specs.Prelude.{◌≡◌, ℕ, ◌≤◌, List}
use Rattle.pure_text.specs.Lists.{Each}
use Rattle.pure_definitions.specs.Types.Typ.{Typ, TFree, TVar, Con}
use Rattle.pure_definitions.specs.Types.Occurs.{OccursInTyp}
use Rattle.pure_definitions.specs.Types.Order.{Algebra}
use Rattle.pure_definitions.specs.Terms.Subst.{typ_instance, IsSortRespecting, KeepsFixedTyps}
use Rattle.pure_tunify.specs.declared.pair.TypPair.{TypPair}

-- A substitution is a type map that respects sorts and leaves the fixed type variables as they are.
pub record IsSubstitution (A : Algebra) (typs : Typ → Typ) : Type 0 where
  pub respects : IsSortRespecting A typs
  pub keeps : KeepsFixedTyps typs

-- The map makes the two sides of the pair equal.
abbrev pub Equates : (Typ → Typ) → TypPair → Type 0
Equates typs p = typ_instance typs p.left ≡ typ_instance typs p.right

-- A unifier of pairs is a substitution that makes the sides of each equal.
pub record IsUnifier (A : Algebra) (pairs : List TypPair) (typs : Typ → Typ) : Type 0 where
  pub substitution : IsSubstitution A typs
  pub equates : Each (Equates typs) pairs

-- The pairs have a unifier, or none.
abbrev pub HasUnifier : Algebra → List TypPair → Type 0
HasUnifier A pairs = (typs : Typ → Typ) × IsUnifier A pairs typs

abbrev pub HasNoUnifier : Algebra → List TypPair → Type 0
HasNoUnifier A pairs = (typs : Typ → Typ) → ¬ IsUnifier A pairs typs

-- The type is a fresh variable: a schematic one of the index for fresh variables, whose name is at or above the first that isn't used yet.
abbrev pub IsFresh : (index from : ℕ) → Typ → Type 0
IsFresh index from (TVar x i s) = (i ≡ index) × (from ≤ x)
IsFresh index from (TFree x s) = ⊥
IsFresh index from (Con k ts) = ⊥

-- No fresh variable occurs in the type, or in the sides of the pair.
abbrev pub IsOld : (index from : ℕ) → Typ → Type 0
IsOld index from t = (v : Typ) → OccursInTyp v t → ¬ IsFresh index from v

abbrev pub IsOldPair : (index from : ℕ) → TypPair → Type 0
IsOldPair index from p = IsOld index from p.left × IsOld index from p.right

-- The first map and then the second are the third, at each schematic variable that isn't fresh.
abbrev pub AreTogether : (index from : ℕ) → (first second both : Typ → Typ) → Type 0
AreTogether index from first second both = (x i : ℕ) (s : List ℕ) → ¬ IsFresh index from (TVar x i s) → typ_instance second (first (TVar x i s)) ≡ both (TVar x i s)

-- A unifier is most general where each unifier is it and then a substitution, at each variable that isn't fresh.
pub record IsMostGeneral (A : Algebra) (index from : ℕ) (pairs : List TypPair) (typs : Typ → Typ) : Type 0 where
  pub unifier : IsUnifier A pairs typs
  pub general : (other : Typ → Typ) → IsUnifier A pairs other → (then_map : Typ → Typ) × IsSubstitution A then_map × AreTogether index from typs then_map other
