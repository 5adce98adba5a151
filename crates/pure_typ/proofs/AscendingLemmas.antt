-- Looking up a key among places in ascending order of keys, and the place of one key more.
use Rattle.std.proofs.Common.{◌≡◌, ◌≢◌, ℕ, zero, suc, ◌+◌, ◌<◌, ◌≤◌, List, [], ◌∷◌, ◌++◌, length, get_or, Bool, true, refl, ap, sym, ◌∙◌, inl, inr, ◌⊎◌, arith, length-append, map}
use Rattle.std.proofs.lemmas.List.Edits.{get_or-insert_at, get_or-insert_below, get_or-insert_above, length-insert}
use Rattle.std.proofs.lemmas.List.{get_or_append_left, get_or_default, get_or-map, length-map}
use Rattle.std.proofs.Math.Seq.{get_or-append_seam}
use Rattle.std.proofs.Math.Nat.{eq-or-lt_of_le}
use Rattle.std.proofs.lemmas.Bool.{cases_lt}
use Rattle.std.specs.List.{insert}
use Rattle.std.specs.declared.cmp.Ordering.{Ordering}
use Rattle.std.specs.declared.cmp.Ordering.TheVariants.{Less, Equal, Greater}
use Rattle.std.specs.Ordering.{ordering_reverse, is_eq, eq_by_cmp}
use Rattle.std.specs.Cmp.{IsTotalOrder, tied_itself}
use Rattle.pure_text.specs.Lists.{IsIn}
use Rattle.pure_text.proofs.ListLaws.{read_in}
use Rattle.pure_typ.specs.Ascending.{key_at, AreAscending, IsBetween}

-- An element of a list stands at a place.
in_read : {K : Type 0} (default k : K) (keys : List K) → IsIn k keys → (n : ℕ) × (n < length keys) × (get_or keys n default ≡ k)
in_read default k [] m = absurd m
in_read default k (x ∷ xs) m = elim m [
  | inl e ↦ (zero, omega arith, sym e)
  | inr t ↦ (let w = in_read default k xs t in (suc w.0, (let b = w.1 in omega arith), w.2))
]

-- A test of equality tells the keys that compare as equal.
pub tied_same : {K : Type 0} (E : K → K → Bool) (compare : K → K → Ordering) → ((x y : K) → E x y ≡ eq_by_cmp compare x y) → ((x y : K) → E x y ≡ true → x ≡ y) → (x y : K) → compare x y ≡ Equal → x ≡ y
tied_same E compare ties same x y e = same x y (ties x y ∙ ap is_eq e)

-- A number is below another, equal, or above.
beside : (i n : ℕ) → (i < n) ⊎ (n ≡ i) ⊎ (n < i)
beside i n = elim (cases_lt i n) [ inl h ↦ inl h | inr h ↦ inr (eq-or-lt_of_le h) ]

module _ {K : Type 0} (compare : K → K → Ordering) (o : IsTotalOrder compare) (default : K) (keys : List K) (places : List ℕ) where
  abbrev key : ℕ → K
  key i = key_at default keys places i

  never_less : (x : K) → ¬ (compare x x ≡ Less)
  never_less x h = let e = tied_itself o x in absurd (cc)

  pub between-start : (sought : K) → IsBetween compare default keys places sought 0 (length places)
  between-start sought = record { ordered = omega arith; inside = omega arith; below = λ i h. absurd (omega arith); rest = λ i h k. absurd (omega arith) }

  -- The key in the middle is less than the sought one.
  pub between-up : (sought : K) (low high middle : ℕ) → AreAscending compare default keys places → IsBetween compare default keys places sought low high → middle < high
      → compare (key middle) sought ≡ Less → IsBetween compare default keys places sought (middle + 1) high
  between-up sought low high middle a b m less = record {
    ordered = omega arith;
    inside = b.inside;
    below = λ i h. by i (eq-or-lt_of_le (step i middle h));
    rest = b.rest;
  }
    where
      step : (i n : ℕ) → i < n + 1 → i ≤ n
      step i n h = omega arith

      by : (i : ℕ) → (i ≡ middle) ⊎ (i < middle) → compare (key i) sought ≡ Less
      by i (inr h) = (let k = b.inside in o.trans (key i) (key middle) sought (a.ascend i middle h (omega arith)) less)
      by i (inl h) = rw h less

  -- The key in the middle is not less.
  pub between-down : (sought : K) (low high middle : ℕ) → AreAscending compare default keys places → IsBetween compare default keys places sought low high → low ≤ middle → middle < high
      → (¬ (compare (key middle) sought ≡ Less)) → IsBetween compare default keys places sought low middle
  between-down sought low high middle a b l m not_less = record {
    ordered = l;
    inside = (let k = b.inside in omega arith);
    below = b.below;
    rest = λ i h k e. by i k e (eq-or-lt_of_le h);
  }
    where
      by : (i : ℕ) → i < length places → compare (key i) sought ≡ Less → (middle ≡ i) ⊎ (middle < i) → ⊥
      by i k e (inr h) = not_less (o.trans (key middle) (key i) sought (a.ascend middle i h k) e)
      by i k e (inl h) = not_less (rw h e)

  -- The sought key is none of the keys, where none stands at the place at which the bounds meet.
  pub no_key : (sought : K) (at : ℕ) → AreAscending compare default keys places → IsBetween compare default keys places sought at at → (at < length places → key at ≢ sought) → ¬ IsIn sought keys
  no_key sought at a b other m = by (in_read default sought keys m)
    where
      at_place : (i : ℕ) → i < length places → key i ≡ sought → (i < at) ⊎ (at ≡ i) ⊎ (at < i) → ⊥
      at_place i h e (inl l) = never_less sought (rw e at (b.below i l))
      at_place i h e (inr (inr g)) = b.rest at (omega arith) (omega arith) (rw e at (a.ascend at i g h))
      at_place i h e (inr (inl s)) = other (rw (← s) at h) (rw (← s) at e)

      by : (n : ℕ) × (n < length keys) × (get_or keys n default ≡ sought) → ⊥
      by (n, h, e) = (let w = a.all n h in at_place w.0 w.1 (ap (λ p. get_or keys p default) w.2 ∙ e) (beside w.0 at))

  -- A new key comes behind the others, and its place to where it was sought.
  module _ (sought : K) (at : ℕ) (a : AreAscending compare default keys places) (b : IsBetween compare default keys places sought at at) (new : ¬ IsIn sought keys)
      (ties : (x y : K) → compare x y ≡ Equal → x ≡ y) where
    abbrev pub more : List ℕ
    more = insert places at (length keys)

    abbrev pub long : List K
    long = keys ++ sought ∷ []

    count : length more ≡ length places + 1
    count = length-insert places at (length keys) b.inside

    old_key : (i : ℕ) → i < length places → get_or long (get_or places i 0) default ≡ key i
    old_key i h = get_or_append_left keys (sought ∷ []) default (get_or places i 0) (a.inside i h)

    below_at : (i : ℕ) → i < at → get_or more i 0 ≡ get_or places i 0
    below_at i h = get_or-insert_below places at (length keys) 0 i h b.inside

    above_at : (i : ℕ) → at ≤ i → get_or more (i + 1) 0 ≡ get_or places i 0
    above_at i h = get_or-insert_above places at (length keys) 0 i h b.inside

    at_at : get_or more at 0 ≡ length keys
    at_at = get_or-insert_at places at (length keys) 0 b.inside

    new_key : get_or long (length keys) default ≡ sought
    new_key = get_or-append_seam keys sought [] default

    above : (i : ℕ) → at ≤ i → i < length places → compare sought (key i) ≡ Less
    above i h k = by (compare (key i) sought) refl
      where
        by : (r : Ordering) → compare (key i) sought ≡ r → compare sought (key i) ≡ Less
        by Less e = absurd (b.rest i h k e)
        by Equal e = absurd (new (read_in keys (get_or places i 0) sought (a.inside i k) (sym (ties (key i) sought e) ∙ get_or_default keys (get_or places i 0) default sought (a.inside i k))))
        by Greater e = o.antisymm sought (key i) ∙ ap ordering_reverse e

    -- A place is in front of the new one, is the new one, or was moved up by one.
    abbrev Side : ℕ → Type 0
    Side i = (i < at) ⊎ (i ≡ at) ⊎ ((j : ℕ) × (at ≤ j) × (i ≡ j + 1))

    side : (i : ℕ) → Side i
    side i = by i (beside i at)
      where
        by : (i : ℕ) → (i < at) ⊎ (at ≡ i) ⊎ (at < i) → Side i
        by i (inl h) = inl h
        by i (inr (inl h)) = inr (inl (sym h))
        by zero (inr (inr h)) = absurd (omega arith)
        by (suc i) (inr (inr h)) = inr (inr (i, omega arith, omega arith))

    long_more : length long ≡ length keys + 1
    long_more = length-append keys (sought ∷ [])

    is_inside : (i : ℕ) → i < length more → Side i → get_or more i 0 < length long
    is_inside i h (inl l) = let e = below_at i l in let w = a.inside i (let k = b.inside in omega arith) in let n = long_more in omega arith
    is_inside i h (inr (inl e)) = let s = at_at in let n = long_more in rw e (omega arith)
    is_inside i h (inr (inr (j, k, e))) = let s = above_at j k in let c = count in let w = a.inside j (omega arith) in let n = long_more in rw e (omega arith)

    has_all : (n : ℕ) → n < length long → (i : ℕ) × (i < length more) × (get_or more i 0 ≡ n)
    has_all n h = by (cases_lt n (length keys))
      where
        old : (i : ℕ) → i < length places → get_or places i 0 ≡ n → (i < at) ⊎ (at ≤ i) → (i : ℕ) × (i < length more) × (get_or more i 0 ≡ n)
        old i k e (inl l) = (i, (let c = count in omega arith), below_at i l ∙ e)
        old i k e (inr g) = (i + 1, (let c = count in omega arith), above_at i g ∙ e)

        by : (n < length keys) ⊎ (length keys ≤ n) → (i : ℕ) × (i < length more) × (get_or more i 0 ≡ n)
        by (inl k) = let w = a.all n k in old w.0 w.1 w.2 (cases_lt w.0 at)
        by (inr k) = (at, (let c = count in let k = b.inside in omega arith), at_at ∙ (let m = long_more in omega arith))

    key_below : (i : ℕ) → i < at → key_at default long more i ≡ key i
    key_below i l = ap (λ p. get_or long p default) (below_at i l) ∙ old_key i (let k = b.inside in omega arith)

    key_new : key_at default long more at ≡ sought
    key_new = ap (λ p. get_or long p default) at_at ∙ new_key

    key_above : (i : ℕ) → at ≤ i → i < length places → key_at default long more (i + 1) ≡ key i
    key_above i g h = ap (λ p. get_or long p default) (above_at i g) ∙ old_key i h

    ascends : (i j : ℕ) → i < j → j < length more → Side i → Side j → compare (key_at default long more i) (key_at default long more j) ≡ Less
    ascends i j h k (inl l) (inl m) = rw (key_below i l, key_below j m) (a.ascend i j h (let w = b.inside in omega arith))
    ascends i j h k (inl l) (inr (inl m)) = rw (m, key_below i l, key_new) (b.below i l)
    ascends i j h k (inl l) (inr (inr (n, g, e))) = let c = count in rw (e, key_below i l, key_above n g (omega arith)) (a.ascend i n (omega arith) (omega arith))
    ascends i j h k (inr (inl l)) (inr (inr (n, g, e))) = let c = count in rw (l, e, key_new, key_above n g (omega arith)) (above n g (omega arith))
    ascends i j h k (inr (inr (m, f, d))) (inr (inr (n, g, e))) =
        let c = count in rw (d, e, key_above m f (omega arith), key_above n g (omega arith)) (a.ascend m n (omega arith) (omega arith))
    ascends i j h k (inr (inl l)) (inl m) = absurd (omega arith)
    ascends i j h k (inr (inl l)) (inr (inl m)) = absurd (omega arith)
    ascends i j h k (inr (inr (m, f, d))) (inl n) = absurd (omega arith)
    ascends i j h k (inr (inr (m, f, d))) (inr (inl n)) = absurd (omega arith)

    pub places-more : AreAscending compare default long more
    places-more = record {
      inside = λ i h. is_inside i h (side i);
      all = has_all;
      ascend = λ i j h k. ascends i j h k (side i) (side j);
    }

-- The keys of entries, read through their places.
module _ {B K : Type 0} (key_of : B → K) (default : K) (binds : List B) (places : List ℕ) (i : ℕ) where
  pub place-inside : (compare : K → K → Ordering) → AreAscending compare default (map key_of binds) places → i < length places → get_or places i 0 < length binds
  place-inside compare a h = rw (← (length-map binds key_of)) (a.inside i h)

  pub key-read : (b : B) → get_or places i 0 < length binds → b ≡ get_or binds (get_or places i 0) b → key_at default (map key_of binds) places i ≡ key_of b
  key-read b w read = get_or-map key_of binds (get_or places i 0) b default w ∙ ap key_of (sym read)
