-- What the arities whose places a set holds ask of types.
use Rattle.std.specs.Prelude.{◌≡◌, ◌↔◌, ◌<◌, ◌≤◌, ℕ, Bool, List, [], length, get_or, MatchBool}
use Rattle.pure_text.specs.Lists.{EachTwo}
use Rattle.pure_definitions.specs.Types.Typ.{Typ}
use Rattle.pure_definitions.specs.Types.Order.{Arity, Algebra, IsOfSort, IsCoregular}
use Rattle.pure_order_tables.specs.Arities.{IsGreatest}
use Rattle.pure_order_tables.specs.Rows.{Holds}

-- The algebra is coregular, and has so few arities that a set can hold each of their places.
pub record IsWalkable (A : Algebra) : Type 0 where
  pub coregular : IsCoregular A
  pub room : length A.arities ≤ 8192

-- what is read where no arity is
abbrev pub no_arity : Arity
no_arity = record { con = 0; domains = []; class = 0 }

-- the arity at a place, its domains, and the one of them at an index
abbrev pub arity_at : Algebra → ℕ → Arity
arity_at A place = get_or A.arities place no_arity

abbrev pub domains_at : Algebra → ℕ → List (List ℕ)
domains_at A place = (arity_at A place).domains

abbrev pub domain_at : Algebra → ℕ → ℕ → List ℕ
domain_at A place i = get_or (domains_at A place) i []

-- The place is that of an arity with a domain at the index.
pub record HasDomain (A : Algebra) (i place : ℕ) : Type 0 where
  pub within : place < length A.arities
  pub domain : i < length (domains_at A place)

-- The place is that of an arity with so many domains.
pub record HasDomains (A : Algebra) (count place : ℕ) : Type 0 where
  pub within : place < length A.arities
  pub long : length (domains_at A place) ≡ count

-- The place is that of an arity of k for a class below c, with so many domains, and they are above those of all such arities.
pub record IsGreatestPlace (A : Algebra) (k c count place : ℕ) : Type 0 where
  pub has : HasDomains A count place
  pub greatest : IsGreatest A k c (arity_at A place)

-- Each place of the set is that of an arity with a domain at the index, or with so many domains.
abbrev pub HaveDomain : Algebra → ℕ → List ℕ → Type 0
HaveDomain A i places = (place : ℕ) → Holds places place → HasDomain A i place

abbrev pub HaveDomains : Algebra → ℕ → List ℕ → Type 0
HaveDomains A count places = (place : ℕ) → Holds places place → HasDomains A count place

-- The type is of the domain at the index of each arity whose place the set holds.
abbrev pub IsOfDomain : Algebra → List ℕ → ℕ → Typ → Type 0
IsOfDomain A places i t = (place : ℕ) → Holds places place → IsOfSort A t (domain_at A place i)

-- The types are of the domains of each arity whose place the set holds: as many, and each of its own.
abbrev pub AreOfDomains : Algebra → List ℕ → List Typ → Type 0
AreOfDomains A places ts = (place : ℕ) → Holds places place → EachTwo (IsOfSort A) ts (domains_at A place)

-- The set has grown by places of arities with so many domains, so that it asks P of the types beside what it asked before.
pub record AsksMore (A : Algebra) (count : ℕ) (P : List Typ → Type 0) (old new : List ℕ) : Type 0 where
  pub have : HaveDomains A count new
  pub ask : (ts : List Typ) → AreOfDomains A new ts ↔ (P ts × AreOfDomains A old ts)

-- The answer whether so many arguments can have the property: if so, more is asked, and else none have it.
abbrev pub AreAsked : (A : Algebra) → (count : ℕ) → (P : List Typ → Type 0) → (old new : List ℕ) → Bool → Type 0
AreAsked A count P old new can = MatchBool can (AsksMore A count P old new) ((ts : List Typ) → length ts ≡ count → ¬ P ts)
