-- What the arities whose places a set holds ask of types.
use Rattle.std.proofs.Common.{◌≡◌, ℕ, ◌+◌, ◌<◌, ◌≤◌, ◌⊎◌, ◌↔◌, inl, inr, List, [], length, get_or, take, take_all, refl, sym, arith, Bool, IsTrue}
use Rattle.std.proofs.lemmas.Bool.Decides.{eqb_tells}
use Rattle.std.proofs.lemmas.List.{get_or_default}
use Rattle.pure_text.specs.Lists.{EachTwo}
use Rattle.pure_definitions.specs.Types.Typ.{Typ, Con, typs_of}
use Rattle.pure_definitions.specs.Types.Order.{Algebra, IsOfClass, IsOfSort}
use Rattle.pure_text.proofs.ListLaws.{each_of, each_at, two_long, two_read}
use Rattle.pure_text.proofs.LoopLaws.{each_turn, in_turn, two_turn, two_full}
use Rattle.pure_order_tables.specs.Arities.{IsGreatest}
use Rattle.pure_order_tables.specs.ArityTable.{IsPlace}
use Rattle.pure_order_tables.specs.Checks.{IsDecided}
use Rattle.pure_order_tables.proofs.CoregularLaws.{directed, candidate_greatest}
use Rattle.pure_order_tables.specs.Rows.{Holds}
use Rattle.pure_order.specs.Walk.{IsWalkable, no_arity, arity_at, domains_at, domain_at, HasDomain, IsGreatestPlace, HaveDomain, HaveDomains, IsOfDomain, AreOfDomains, AsksMore}
use Rattle.pure_order.proofs.DomainLaws.{of_class_by_domains, are_of_sorts}

pub greatest_at : (A : Algebra) → IsDecided A → IsWalkable A → (k c place : ℕ) → IsPlace A k c place → IsGreatest A k c (arity_at A place)
greatest_at A decided w k c place p = candidate_greatest A decided k c (directed A w.coregular k c) (arity_at A place) (p.greatest no_arity)

pub greatest_decides : (A : Algebra) (k c place : ℕ) → IsGreatest A k c (arity_at A place) → (ts : List Typ) → IsOfClass A (Con k (typs_of ts)) c ↔ EachTwo (IsOfSort A) ts (domains_at A place)
greatest_decides A k c place g ts =
    let by = of_class_by_domains A k c (domains_at A place) (arity_at A place, refl, g) (typs_of ts) in
    let each = are_of_sorts A ts (domains_at A place) in
    (λ h. each.0 (by.0 h), λ h. by.1 (each.1 h))

pub other_count : (A : Algebra) (k c count place : ℕ) → IsGreatest A k c (arity_at A place) → ¬ (length (domains_at A place) ≡ count) → (ts : List Typ) → length ts ≡ count → ¬ IsOfClass A (Con k (typs_of ts)) c
other_count A k c count place g other ts many h =
    let same = two_long (IsOfSort A) ts (domains_at A place) ((greatest_decides A k c place g ts).0 h) in
    other (omega arith)

-- all that the set holds below an end has the property
abbrev pub AllBelow : (ℕ → Type 0) → List ℕ → ℕ → Type 0
AllBelow P places end = (place : ℕ) → place < end → Holds places place → P place

pub below_turn : (P : ℕ → Type 0) (places : List ℕ) (end : ℕ) → Holds places end → AllBelow P places (end + 1) ↔ (AllBelow P places end × P end)
below_turn P places end held = (
  λ all. (λ place within h. all place (omega arith) h, all end (omega arith) held),
  λ w place within h. elim (eqb_tells place end) [ inl e ↦ rw e.1 w.1 | inr n ↦ w.0 place (omega arith) h ],
)

pub below_skip : (P : ℕ → Type 0) (places : List ℕ) (end : ℕ) → ¬ Holds places end → AllBelow P places end ↔ AllBelow P places (end + 1)
below_skip P places end none = (
  λ all place within h. elim (eqb_tells place end) [ inl e ↦ absurd (none (rw e.1 at h)) | inr n ↦ all place (omega arith) h ],
  λ all place within h. all place (omega arith) h,
)

pub grown_same : (A : Algebra) (count : ℕ) (P Q : List Typ → Type 0) (old new : List ℕ) → ((ts : List Typ) → P ts ↔ Q ts) → AsksMore A count P old new → AsksMore A count Q old new
grown_same A count P Q old new same g = record {
  have = g.have;
  ask = λ ts. let ask = g.ask ts in (λ h. ((same ts).0 (ask.0 h).0, (ask.0 h).1), λ w. ask.1 ((same ts).1 w.0, w.1));
}

pub grown_not : (A : Algebra) (count : ℕ) (P : List Typ → Type 0) (old : List ℕ) → ((ts : List Typ) → P ts) → HaveDomains A count old → AsksMore A count P old old
grown_not A count P old all have = record { have = have; ask = λ ts. (λ h. (all ts, h), λ w. w.1) }

pub grown_on : (A : Algebra) (count : ℕ) (P Q R : List Typ → Type 0) (old now new : List ℕ) → ((ts : List Typ) → R ts ↔ (P ts × Q ts)) → AsksMore A count P old now → AsksMore A count Q now new → AsksMore A count R old new
grown_on A count P Q R old now new both first second = record {
  have = second.have;
  ask = λ ts. (
    λ h. let b = (second.ask ts).0 h in let a = (first.ask ts).0 b.1 in ((both ts).1 (a.0, b.0), a.1),
    λ w. let r = (both ts).0 w.0 in (second.ask ts).1 (r.1, (first.ask ts).1 (r.0, w.1)),
  );
}

-- An answer on the types is one on what the set has grown by, if it was empty.
pub grown_answer : (A : Algebra) (count : ℕ) (P : List Typ → Type 0) (old new : List ℕ) (ts : List Typ) (b : Bool) → ((place : ℕ) → ¬ Holds old place) → AsksMore A count P old new → (IsTrue b ↔ AreOfDomains A new ts) → IsTrue b ↔ P ts
grown_answer A count P old new ts b none g test = let ask = g.ask ts in (λ h. (ask.0 (test.0 h)).0, λ p. test.1 (ask.1 (p, λ place h. absurd (none place h))))

-- a set with the place of a greatest arity asks that the type is of the class
pub grown_put : (A : Algebra) (k c count place : ℕ) (now new : List ℕ) → IsGreatestPlace A k c count place → ((other : ℕ) → Holds new other ↔ ((other ≡ place) ⊎ Holds now other)) → HaveDomains A count now
    → AsksMore A count (λ ts. IsOfClass A (Con k (typs_of ts)) c) now new
grown_put A k c count place now new g put have = record {
  have = λ other h. elim ((put other).0 h) [ inl e ↦ rw e g.has | inr m ↦ have other m ];
  ask = λ ts. let decides = greatest_decides A k c place g.greatest ts in (
    λ h. (decides.1 (h place ((put place).1 (inl refl))), λ other m. h other ((put other).1 (inr m))),
    λ w other h. elim ((put other).0 h) [ inl e ↦ rw e (decides.0 w.0) | inr m ↦ w.1 other m ],
  );
}

pub sort_turn : (A : Algebra) (t : Typ) (s : List ℕ) (i c : ℕ) → i < length s → c ≡ get_or s i c → IsOfSort A t (take (i + 1) s) ↔ (IsOfSort A t (take i s) × IsOfClass A t c)
sort_turn A t s i c within read = (
  λ h. (
    each_of (IsOfClass A t) (take i s) (λ x m. each_at (IsOfClass A t) (take (i + 1) s) h x ((in_turn x s i c within read).1 (inl m))),
    each_at (IsOfClass A t) (take (i + 1) s) h c ((in_turn c s i c within read).1 (inr refl)),
  ),
  λ w. each_turn (IsOfClass A t) s i c within read w.0 w.1,
)

pub sort_all : (A : Algebra) (t : Typ) (s r : List ℕ) (i : ℕ) → s ≡ r → length s ≤ i → IsOfSort A t (take i s) ↔ IsOfSort A t r
sort_all A t s r i same full = rw (take_all i s full, same) (λ h. h, λ h. h)

-- what is asked for the places below an end
abbrev pub Asks : Algebra → ℕ → List ℕ → ℕ → ℕ → List Typ → Type 0
Asks A k places i end ts = AllBelow (λ place. IsOfSort A (Con k (typs_of ts)) (domain_at A place i)) places end

pub asks_none : (A : Algebra) (k count i start : ℕ) (places old : List ℕ) → ((place : ℕ) → Holds places place → start ≤ place) → HaveDomains A count old → AsksMore A count (Asks A k places i start) old old
asks_none A k count i start places old from have = grown_not A count (Asks A k places i start) old (λ ts place within h. (let f = from place h in absurd (omega arith))) have

pub asks_turn : (A : Algebra) (k count i place : ℕ) (places old now new s : List ℕ) → s ≡ domain_at A place i → Holds places place → AsksMore A count (Asks A k places i place) old now → AsksMore A count (λ ts. IsOfSort A (Con k (typs_of ts)) s) now new → AsksMore A count (Asks A k places i (place + 1)) old new
asks_turn A k count i place places old now new s same held first second =
    grown_on A count (Asks A k places i place) (λ ts. IsOfSort A (Con k (typs_of ts)) s) (Asks A k places i (place + 1)) old now new
    (λ ts. rw same (below_turn (λ p. IsOfSort A (Con k (typs_of ts)) (domain_at A p i)) places place held)) first second

pub asks_skip : (A : Algebra) (k count i place : ℕ) (places old now : List ℕ) → ¬ Holds places place → AsksMore A count (Asks A k places i place) old now → AsksMore A count (Asks A k places i (place + 1)) old now
asks_skip A k count i place places old now none = grown_same A count (Asks A k places i place) (Asks A k places i (place + 1)) old now (λ ts. below_skip (λ p. IsOfSort A (Con k (typs_of ts)) (domain_at A p i)) places place none)

pub asks_all : (A : Algebra) (k count i end stop : ℕ) (places old now : List ℕ) → ((place : ℕ) → Holds places place → place < end) → end ≤ stop → AsksMore A count (Asks A k places i stop) old now → AsksMore A count (λ ts. IsOfDomain A places i (Con k (typs_of ts))) old now
asks_all A k count i end stop places old now below full = grown_same A count (Asks A k places i stop) (λ ts. IsOfDomain A places i (Con k (typs_of ts))) old now
    (λ ts. (λ all place h. let b = below place h in all place (omega arith) h, λ all place within h. all place h))

-- the domains of each arity of the set, at an index
pub have_domain : (A : Algebra) (count i : ℕ) (places : List ℕ) → HaveDomains A count places → i < count → HaveDomain A i places
have_domain A count i places have within place h = let d = have place h in record { within = d.within; domain = (let l = d.long in omega arith) }

domain_read : (A : Algebra) (i place : ℕ) → HasDomain A i place → domain_at A place i ≡ get_or (domains_at A place) i (domain_at A place i)
domain_read A i place d = get_or_default (domains_at A place) i [] (domain_at A place i) d.domain

-- the types so far are of their domains
abbrev pub SoFar : Algebra → List ℕ → List Typ → ℕ → Type 0
SoFar A places ts i = (place : ℕ) → Holds places place → EachTwo (IsOfSort A) (take i ts) (take i (domains_at A place))

pub so_far_turn : (A : Algebra) (places : List ℕ) (ts : List Typ) (i : ℕ) (t : Typ) → HaveDomains A (length ts) places → i < length ts → t ≡ get_or ts i t → SoFar A places ts i → IsOfDomain A places i t → SoFar A places ts (i + 1)
so_far_turn A places ts i t have within read before of place h =
    two_turn (IsOfSort A) ts (domains_at A place) i t (domain_at A place i) (sym (have place h).long) within read (domain_read A i place (have_domain A (length ts) i places have within place h)) (before place h) (of place h)

pub so_far_all : (A : Algebra) (places : List ℕ) (ts : List Typ) (i : ℕ) → HaveDomains A (length ts) places → length ts ≤ i → SoFar A places ts i → AreOfDomains A places ts
so_far_all A places ts i have full all place h = two_full (IsOfSort A) ts (domains_at A place) i (sym (have place h).long) full (all place h)

pub domain_of_all : (A : Algebra) (places : List ℕ) (ts : List Typ) (i : ℕ) (t : Typ) → HaveDomains A (length ts) places → i < length ts → t ≡ get_or ts i t → AreOfDomains A places ts → IsOfDomain A places i t
domain_of_all A places ts i t have within read all place h =
    two_read (IsOfSort A) ts (domains_at A place) i t (domain_at A place i) within read (domain_read A i place (have_domain A (length ts) i places have within place h)) (all place h)
