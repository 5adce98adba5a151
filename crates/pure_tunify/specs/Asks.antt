-- What a sort asks of the arguments of a constructor, and of the variables of a type.
use Rattle.std.specs.Prelude.{◌↔◌, ◌≡◌, ℕ, List, [], ◌∷◌, length}
use Rattle.pure_text.specs.Lists.{Each, EachTwo}
use Rattle.pure_typ.specs.SortUnion.{IsSortUnion}
use Rattle.pure_definitions.specs.Types.Typ.{Typ, TVar, Con, typs_of}
use Rattle.pure_definitions.specs.Types.Order.{Algebra, IsSortBelow, IsOfSort}
use Rattle.pure_definitions.specs.Terms.Subst.{typ_instance}
use Rattle.pure_tunify.specs.declared.asks.Asked.{Asked}
use Rattle.pure_tunify.specs.Unifiers.{IsSubstitution}

-- The sorts at each place of the third list are the unions of those of the first two.
abbrev pub AreUnions : (lefts rights unions : List (List ℕ)) → Type 0
AreUnions [] [] [] = Unit {0}
AreUnions (s ∷ ss) (r ∷ rs) (u ∷ us) = IsSortUnion s r u × AreUnions ss rs us
AreUnions _ _ _ = ⊥

-- The sort asks these sorts of so many arguments of a constructor: its type is of the sort exactly where they are of these.
pub record AreAskedOfArguments (A : Algebra) (con : ℕ) (sort : List ℕ) (count : ℕ) (sorts : List (List ℕ)) : Type 0 where
  pub long : length sorts ≡ count
  pub exactly : (ts : List Typ) → length ts ≡ count → IsOfSort A (Con con (typs_of ts)) sort ↔ EachTwo (IsOfSort A) ts sorts

-- With so many arguments no type of the constructor is of the sort.
abbrev pub HasNoSuchArguments : Algebra → (con : ℕ) → (sort : List ℕ) → (count : ℕ) → Type 0
HasNoSuchArguments A k s count = (ts : List Typ) → length ts ≡ count → ¬ IsOfSort A (Con k (typs_of ts)) s

-- The image of the variable is of the sort that is asked of it.
abbrev pub IsMet : Algebra → (Typ → Typ) → Asked → Type 0
IsMet A typs a = IsOfSort A (typs (TVar a.name a.index a.sort)) a.asked

-- This is what a sort asks of the variables of a type: an instance by a substitution is of the sort exactly where all of it is met.
abbrev pub AreAsked : Algebra → Typ → (sort : List ℕ) → List Asked → Type 0
AreAsked A t s asked = (typs : Typ → Typ) → IsSubstitution A typs → IsOfSort A (typ_instance typs t) s ↔ Each (IsMet A typs) asked

-- No instance of the type by a substitution is of the sort.
abbrev pub HasNoInstance : Algebra → Typ → (sort : List ℕ) → Type 0
HasNoInstance A t s = (typs : Typ → Typ) → IsSubstitution A typs → ¬ IsOfSort A (typ_instance typs t) s

-- The list has grown by what a sort asks of the variables of a type, or sorts ask of those of types, each of its own.
abbrev pub AskMore : Algebra → Typ → (sort : List ℕ) → (old new : List Asked) → Type 0
AskMore A t s old new = (typs : Typ → Typ) → IsSubstitution A typs → Each (IsMet A typs) new ↔ (IsOfSort A (typ_instance typs t) s × Each (IsMet A typs) old)

-- the types and the sorts of two lists: what the sorts ask, and that no instance is of them
abbrev pub AreOfEach : Algebra → (Typ → Typ) → List Typ → List (List ℕ) → Type 0
AreOfEach A typs ts sorts = EachTwo (λ t s. IsOfSort A (typ_instance typs t) s) ts sorts

abbrev pub AllAskMore : Algebra → List Typ → (sorts : List (List ℕ)) → (old new : List Asked) → Type 0
AllAskMore A ts sorts old new = (typs : Typ → Typ) → IsSubstitution A typs → Each (IsMet A typs) new ↔ (AreOfEach A typs ts sorts × Each (IsMet A typs) old)

abbrev pub HaveNoInstances : Algebra → List Typ → (sorts : List (List ℕ)) → Type 0
HaveNoInstances A ts sorts = (typs : Typ → Typ) → IsSubstitution A typs → ¬ AreOfEach A typs ts sorts

-- The sort is the greatest that is below both: it is below both, and a type that is of both is of it.
pub record IsMeet (A : Algebra) (left right both : List ℕ) : Type 0 where
  pub left_above : IsSortBelow A both left
  pub right_above : IsSortBelow A both right
  pub greatest : (t : Typ) → IsOfSort A t left → IsOfSort A t right → IsOfSort A t both
