-- What is tested of two arities, and the least that are in conflict.
use Rattle.std.specs.Prelude.{◌≡◌, ◌≤◌, ◌<◌, ◌⊎◌, ℕ, List, Option, MatchOption}
use Rattle.pure_text.specs.Lists.{IsIn, Each, AnyOf, EachTwo}
use Rattle.pure_definitions.specs.Types.Order.{Arity, Algebra, IsClassBelow, IsSortBelow, AreDomainsBelow, AreCompatible}
use Rattle.pure_order_tables.specs.Arities.{IsArityBelow, IsGreatestIfAny, IsAboveGreatest, IsNotAbove}

-- The domains are below an arity of k for a class below d that is a greatest one, if there is a greatest one.
abbrev pub IsCovered : Algebra → ℕ → ℕ → List (List ℕ) → Type 0
IsCovered A k d domains = (q : Arity) × IsGreatestIfAny A k d q × EachTwo (IsSortBelow A) domains q.domains

-- The arities are in conflict: they aren't compatible.
abbrev pub AreInConflict : Algebra → Arity → Arity → Type 0
AreInConflict A a b = ¬ AreCompatible A a b

-- A declared arity of a's constructor in conflict with a.
pub record IsInConflict (A : Algebra) (a b : Arity) : Type 0 where
  pub declared : IsIn b A.arities
  pub con : b.con ≡ a.con
  pub conflict : AreInConflict A a b

-- The class is the least class of a declared arity in conflict with a.
pub record IsLeastInConflict (A : Algebra) (a : Arity) (class : ℕ) : Type 0 where
  pub is : (b : Arity) × IsInConflict A a b × (b.class ≡ class)
  pub least : (b : Arity) → IsInConflict A a b → class ≤ b.class

-- For each two arities of k for classes below d there is one whose domains are above those of both.
abbrev pub IsDirected : Algebra → ℕ → ℕ → Type 0
IsDirected A k d = (a b : Arity) → IsArityBelow A k d a → IsArityBelow A k d b → (q : Arity) × IsArityBelow A k d q × AreDomainsBelow A a q × AreDomainsBelow A b q

-- Of each two classes the first is below the second or isn't.
abbrev pub IsDecided : Algebra → Type 0
IsDecided A = (c d : ℕ) → IsClassBelow A c d ⊎ ¬ IsClassBelow A c d

-- The arity is of the constructor k and lacks what is asked of such arities, or has it if it is of k.
pub record FailsAt (Q : Arity → Type 0) (k : ℕ) (b : Arity) : Type 0 where
  pub con : b.con ≡ k
  pub fails : ¬ Q b

abbrev pub PassesAt : (Arity → Type 0) → ℕ → Arity → Type 0
PassesAt Q k b = b.con ≡ k → Q b

-- The class is the least class of one of these arities of k that lacks what is asked.
pub record IsLeastAt (Q : Arity → Type 0) (k : ℕ) (bs : List Arity) (class : ℕ) : Type 0 where
  pub is : AnyOf (λ b. FailsAt Q k b × (b.class ≡ class)) bs
  pub least : Each (λ b. FailsAt Q k b → class ≤ b.class) bs

-- What a look for such an arity finds.
abbrev pub FindsAt : (Arity → Type 0) → ℕ → List Arity → Option ℕ → Type 0
FindsAt Q k bs found = MatchOption found (Each (PassesAt Q k) bs) (IsLeastAt Q k bs)

-- All arities of a's constructor for classes below d have domains below a's.
abbrev pub AreAllBelow : Algebra → Arity → ℕ → Type 0
AreAllBelow A a d = (b : Arity) → IsArityBelow A a.con d b → AreDomainsBelow A b a

-- These classes are above a's, and at each of them a new arity a would be the greatest. At all others above a's it is below the greatest, or not above some arity.
pub record AreGreater (A : Algebra) (a : Arity) (ds : List ℕ) : Type 0 where
  pub above : (d : ℕ) → IsIn d ds → IsClassBelow A a.class d × IsAboveGreatest A a.con d a.domains
  pub kept : (d : ℕ) → IsClassBelow A a.class d → IsIn d ds ⊎ (IsCovered A a.con d a.domains ⊎ IsNotAbove A a.con d a.domains)

-- The first triple of numbers is the second one or before it.
abbrev pub IsNotAfter : ℕ → ℕ → ℕ → ℕ → ℕ → ℕ → Type 0
IsNotAfter k c d l e f = (k < l) ⊎ ((k ≡ l) × ((c < e) ⊎ ((c ≡ e) × (d ≤ f))))

-- Of all declared arities in conflict, these are the least constructor, then the least first class, then the least second class.
pub record IsLeastConflict (A : Algebra) (k c d : ℕ) : Type 0 where
  pub is : (a b : Arity) × IsIn a A.arities × IsInConflict A a b × (a.con ≡ k) × (a.class ≡ c) × (b.class ≡ d)
  pub ordered : c ≤ d
  pub least : (a b : Arity) → IsIn a A.arities → IsInConflict A a b → IsNotAfter k c d a.con a.class b.class
