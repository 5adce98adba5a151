-- The classes at which no arity covers an arity.
use Rattle.std.proofs.Common.{◌≡◌, subst, ◌↔◌, ◌⊎◌, ℕ, ◌+◌, ◌<◌, ◌≤◌, ◌/◌, zero, suc, List, [], ◌∷◌, length, get_or, sym, ap, inl, inr, ◌∙◌, arith, Bool, IsTrue, Option, Some, None, MatchOption}
use Rattle.std.proofs.lemmas.List.{length-map}
use Rattle.pure_text.specs.Lists.{EachTwo}
use Rattle.pure_definitions.specs.Types.Order.{Arity, Algebra, IsClassBelow, IsSortBelow, IsCoregular}
use Rattle.pure_definitions.proofs.OrderLaws.{domains-more, domains-trans}
use Rattle.pure_order_tables.specs.Rows.{Holds}
use Rattle.pure_order_tables.specs.ClassTable.{IsNumber, IsRow, name_at}
use Rattle.pure_order_tables.specs.declared.tables.ArityEntry.{ArityEntry}
use Rattle.pure_order_tables.specs.ArityView.{arity_of, arities_of}
use Rattle.pure_order_tables.specs.ArityTable.{IsPlace}
use Rattle.pure_order_tables.specs.Arities.{IsArityBelow, IsAboveGreatest, IsNotAbove}
use Rattle.pure_order_tables.specs.Checks.{IsDecided}
use Rattle.pure_order_tables.specs.Uncovered.{Extends, IsAbovePlace, IsBelowPlace, IsCoveredBy, IsUncovered, IsUpRow, IsWithinArities}
use Rattle.pure_order_tables.proofs.BelowLaws.{below-classes}
use Rattle.pure_order_tables.proofs.ClassTableLaws.{below_or_from, here_or_behind}
use Rattle.pure_order_tables.proofs.CoregularLaws.{candidate_greatest, directed}

-- what the test by the arity at the place of a class says

pub within_place : (B : Algebra) (k d : ℕ) (place : Option ℕ) → MatchOption place ((q : Arity) → ¬ IsArityBelow B k d q) (IsPlace B k d) → IsWithinArities B place
within_place B k d None m = tt
within_place B k d (Some p) m = m.within

pub below_covers : (V B : Algebra) (a : Arity) (d : ℕ) (place : Option ℕ) → MatchOption place ((q : Arity) → ¬ IsArityBelow B a.con d q) (IsPlace B a.con d) → IsBelowPlace V B a place → IsCoveredBy V B a d
below_covers V B a d None m h = absurd h
below_covers V B a d (Some p) m h = (get_or B.arities p a, (m.greatest a).is, h)

pub bare_at : (V B : Algebra) → Extends V B → IsDecided B → (a : Arity) (d : ℕ) (place : Option ℕ) → MatchOption place ((q : Arity) → ¬ IsArityBelow B a.con d q) (IsPlace B a.con d) → ¬ IsBelowPlace V B a place → IsCoregular B → ¬ IsCoveredBy V B a d
bare_at V B ext decided a d None m not r w = m w.0 w.1
bare_at V B ext decided a d (Some p) m not r w =
    let g = candidate_greatest B decided a.con d (directed B r a.con d) (get_or B.arities p a) (m.greatest a) in
    not (domains-trans V a w.0 (get_or B.arities p a) w.2 (domains-more B V ext.classes w.0 (get_or B.arities p a) (g.above w.0 w.1)))

pub above_greatest : (A : Algebra) (a : Arity) (d : ℕ) (place : Option ℕ) → MatchOption place ((q : Arity) → ¬ IsArityBelow A a.con d q) (IsPlace A a.con d) → IsAbovePlace A a place → IsAboveGreatest A a.con d a.domains
above_greatest A a d None m h b g = absurd (m b g.is)
above_greatest A a d (Some p) m h b g = domains-trans A b (get_or A.arities p a) a ((m.greatest a).above b g) h

pub not_above : (A : Algebra) (a : Arity) (d : ℕ) (place : Option ℕ) → MatchOption place ((q : Arity) → ¬ IsArityBelow A a.con d q) (IsPlace A a.con d) → ¬ IsAbovePlace A a place → IsNotAbove A a.con d a.domains
not_above A a d None m not = absurd (not tt)
not_above A a d (Some p) m not = (get_or A.arities p a, (m.greatest a).is, not)

-- the arity at a place, as the code reads it

read_arity : (es : List ArityEntry) (p : ℕ) (e : ArityEntry) (a : Arity) → p < length es → e ≡ get_or es p e → get_or (arities_of es) p a ≡ arity_of e
read_arity [] p e a within read = absurd (omega arith)
read_arity (x ∷ xs) zero e a within read = ap arity_of (sym read)
read_arity (x ∷ xs) (suc p) e a within read = read_arity xs p e a (omega arith) read

pub below_read : (V B : Algebra) (a : Arity) (es : List ArityEntry) (p : ℕ) (e : ArityEntry) (first second : List (List ℕ)) (b : Bool) → arities_of es ≡ B.arities → p < length B.arities → e ≡ get_or es p e → first ≡ a.domains → second ≡ (arity_of e).domains → (IsTrue b ↔ EachTwo (IsSortBelow V) first second) → IsTrue b ↔ IsBelowPlace V B a (Some p)
below_read V B a es p e first second b are within read f g test =
    let found : get_or B.arities p a ≡ arity_of e = rw (← are) (read_arity es p e a (rw (← are, length-map es arity_of) at within) read) in
    rw (found, ← f, ← g) test

pub above_read : (A : Algebra) (a : Arity) (es : List ArityEntry) (p : ℕ) (e : ArityEntry) (first second : List (List ℕ)) (b : Bool) → arities_of es ≡ A.arities → p < length A.arities → e ≡ get_or es p e → first ≡ (arity_of e).domains → second ≡ a.domains → (IsTrue b ↔ EachTwo (IsSortBelow A) first second) → IsTrue b ↔ IsAbovePlace A a (Some p)
above_read A a es p e first second b are within read f g test =
    let found : get_or A.arities p a ≡ arity_of e = rw (← are) (read_arity es p e a (rw (← are, length-map es arity_of) at within) read) in
    rw (found, ← f, ← g) test

-- What covers at a class covers at each class above it.
covers_up : (V B : Algebra) → Extends V B → (a : Arity) (d e : ℕ) → IsCoveredBy V B a d → IsClassBelow V d e → IsCoveredBy V B a e
covers_up V B ext a d e w h = (w.0, record { declared = w.1.declared; con = w.1.con; below = ext.up w.0 d e w.1.declared w.1.below h }, w.2)

-- The classes have been seen whose numbers are from an end on.
pub record IsUncoveredSoFar (V B : Algebra) (a : Arity) (row covered : List ℕ) (end : ℕ) : Type 0 where
  pub count : length row ≡ length V.classes / 64 + 1
  pub covered_count : length covered ≡ length V.classes / 64 + 1
  pub above : (n : ℕ) → Holds row n → (n < length V.classes) × IsClassBelow V a.class (name_at V.classes n)
  pub bare : IsCoregular B → (n : ℕ) → Holds row n → ¬ IsCoveredBy V B a (name_at V.classes n)
  pub covers : (n : ℕ) → Holds covered n → IsCoveredBy V B a (name_at V.classes n)
  pub seen : (n : ℕ) → n < length V.classes → end ≤ n → IsClassBelow V a.class (name_at V.classes n) → Holds row n ⊎ IsCoveredBy V B a (name_at V.classes n)

pub uncovered_start : (V B : Algebra) (a : Arity) (row covered : List ℕ) (end : ℕ) → end ≡ length V.classes → length row ≡ end / 64 + 1 → length covered ≡ end / 64 + 1 → ((n : ℕ) → ¬ Holds row n) → ((n : ℕ) → ¬ Holds covered n) → IsUncoveredSoFar V B a row covered end
uncovered_start V B a row covered end is count covered_count none none_covered = record {
  count = rw is at count;
  covered_count = rw is at covered_count;
  above = λ n h. absurd (none n h);
  bare = λ r n h. absurd (none n h);
  covers = λ n h. absurd (none_covered n h);
  seen = λ n within from. absurd (omega (arith, within, from, is));
}

-- one turn, at a class that is covered, at one that isn't, and at one that is passed over

pub turn_covered : (V B : Algebra) → Extends V B → (a : Arity) (row covered covered' other : List ℕ) (end number : ℕ) → number + 1 ≡ end → IsCoveredBy V B a (name_at V.classes number) → IsUpRow V (name_at V.classes number) other
    → ((n : ℕ) → Holds covered' n ↔ (Holds covered n ⊎ ((n / 64 < length covered) × Holds other n))) → length covered' ≡ length covered → IsUncoveredSoFar V B a row covered end → IsUncoveredSoFar V B a row covered' number
turn_covered V B ext a row covered covered' other end number is cover up put long s = record {
  count = s.count;
  covered_count = long ∙ s.covered_count;
  above = s.above;
  bare = s.bare;
  covers = λ n h. elim ((put n).0 h) [ inl o ↦ s.covers n o | inr w ↦ covers_up V B ext a (name_at V.classes number) (name_at V.classes n) cover ((up n).0 w.1).1 ];
  seen = λ n n_within from below. elim (here_or_behind n number end is from) [ inl e ↦ inr (rw e cover) | inr behind ↦ s.seen n n_within behind below ];
}

pub turn_bare : (V B : Algebra) (a : Arity) (row row' covered : List ℕ) (end number : ℕ) → number + 1 ≡ end → number < length V.classes → IsClassBelow V a.class (name_at V.classes number) → (IsCoregular B → ¬ IsCoveredBy V B a (name_at V.classes number)) → ((n : ℕ) → Holds row' n ↔ ((n ≡ number) ⊎ Holds row n)) → length row' ≡ length row
    → IsUncoveredSoFar V B a row covered end → IsUncoveredSoFar V B a row' covered number
turn_bare V B a row row' covered end number is within below bare put long s = record {
  count = long ∙ s.count;
  covered_count = s.covered_count;
  above = λ n h. elim ((put n).0 h) [ inl e ↦ rw e (within, below) | inr o ↦ s.above n o ];
  bare = λ r n h. elim ((put n).0 h) [ inl e ↦ rw e (bare r) | inr o ↦ s.bare r n o ];
  covers = s.covers;
  seen = λ n n_within from under. elim (here_or_behind n number end is from) [
    | inl e ↦ inl ((put n).1 (inl e))
    | inr behind ↦ elim (s.seen n n_within behind under) [ inl h ↦ inl ((put n).1 (inr h)) | inr w ↦ inr w ]
  ];
}

pub turn_passed : (V B : Algebra) (a : Arity) (row covered : List ℕ) (end number : ℕ) → number + 1 ≡ end → (¬ IsClassBelow V a.class (name_at V.classes number)) ⊎ Holds covered number → IsUncoveredSoFar V B a row covered end → IsUncoveredSoFar V B a row covered number
turn_passed V B a row covered end number is passed s = record {
  count = s.count;
  covered_count = s.covered_count;
  above = s.above;
  bare = s.bare;
  covers = s.covers;
  seen = λ n n_within from under. elim (here_or_behind n number end is from) [
    | inl e ↦ elim passed [ inl other ↦ absurd (other (rw e at under)) | inr held ↦ inr (rw e (s.covers number held)) ]
    | inr behind ↦ s.seen n n_within behind under
  ];
}

-- Numbers that are covered already are passed.
pub uncovered_passed : (V B : Algebra) (a : Arity) (up row covered : List ℕ) (number end : ℕ) → IsUpRow V a.class up → ((n : ℕ) → end ≤ n → n < number → Holds up n → Holds covered n) → IsUncoveredSoFar V B a row covered number → IsUncoveredSoFar V B a row covered end
uncovered_passed V B a up row covered number end above passed s = record {
  count = s.count;
  covered_count = s.covered_count;
  above = s.above;
  bare = s.bare;
  covers = s.covers;
  seen = λ n within from under. elim (below_or_from n number) [ inl below ↦ inr (s.covers n (passed n from below ((above n).1 (within, under)))) | inr behind ↦ s.seen n within behind under ];
}

pub uncovered_all : (V B : Algebra) (a : Arity) (row covered : List ℕ) (end : ℕ) → end ≤ 0 → IsUncoveredSoFar V B a row covered end → IsUncovered V B a row
uncovered_all V B a row covered end over s = record { above = s.above; bare = s.bare; rest = λ n within under. s.seen n within (omega arith) under }

-- the row of a class with a number, in the algebra of the table
pub up_row : (A B : Algebra) (number : ℕ) (words : List ℕ) → A ≡ B → IsRow A.classes (name_at A.classes number) words → IsUpRow B (name_at B.classes number) words
up_row A B number words same row = subst (λ (X : Algebra). IsUpRow X (name_at X.classes number) words) same (λ n. (
  λ h. (let w = (row n).0 h in (w.0, (below-classes A (name_at A.classes number) (name_at A.classes n)).0 w.1)),
  λ w. (row n).1 (w.0, (below-classes A (name_at A.classes number) (name_at A.classes n)).1 w.1),
))

pub own_row : (A : Algebra) (c number : ℕ) (words : List ℕ) → IsNumber A.classes c number → IsUpRow A (name_at A.classes number) words → IsUpRow A c words
own_row A c number words is up = rw is.named at up
