-- Tables of arities.
use Rattle.std.proofs.Common.{◌≡◌, ℕ, zero, suc, ◌<◌, arith, length-append, map, List, [], ◌∷◌, ◌++◌, length, get_or, refl, ap, sym, subst, inl, inr, ◌⊎◌, ◌↔◌, Option, Some, None, MatchOption, ◌∙◌}
use Rattle.std.specs.FinMap.{FinMap, empty, get, insert, get-empty}
use Rattle.std.specs.Ordering.{nat_cmp}
use Rattle.pure_text.specs.Lists.{IsIn, Each}
use Rattle.pure_definitions.specs.Types.Order.{Class, Arity, Algebra, IsClassBelow}
use Rattle.pure_order_tables.specs.Classes.{IsDeclared, Follows}
use Rattle.pure_order_tables.specs.Arities.{IsArityBelow, IsGreatestIfAny, IsNotAbove, IsKnown, with_class, with_arity}
use Rattle.std.proofs.Math.ListN.{get_or-map}
use Rattle.std.proofs.lemmas.List.{map-append}
use Rattle.pure_order_tables.specs.declared.tables.ArityEntry.{ArityEntry}
use Rattle.pure_order_tables.specs.ArityView.{arity_of, arities_of, algebra_of}
use Rattle.pure_order_tables.specs.ClassTable.{AreAllAbove}
use Rattle.pure_definitions.proofs.OrderLaws.{below_same, below-more}
use Rattle.std.proofs.Math.ListN.{get_or-append}
use Rattle.std.proofs.Math.Seq.{get_or-append_seam}
use Rattle.pure_order_tables.proofs.BelowLaws.{below-classes}
use Rattle.pure_order_tables.specs.ArityTable.{IsPlace, IsPlaceIfBelow, IsSlot, IsArityTable, IsTable}
use Rattle.pure_order_tables.specs.declared.slots.Slot.{Slot}
use Rattle.pure_shared_maps.specs.View.{puts}
use Rattle.pure_text.proofs.ListLaws.{any_some, each-append, read_in}
use Rattle.pure_order_tables.proofs.MapLaws.{get_after, get_placed}
use Rattle.pure_order_tables.specs.Unknown.{HasArityFor}
use Rattle.pure_order_tables.proofs.ArityLaws.{below_before, declared_in, has_more, same_order, same_order_back, new_or_old, new_place, not_greatest, kept_place, kept_covered, known_after, place_after, kept_apart}
use Rattle.pure_order_tables.specs.Checks.{AreGreater, IsCovered, IsDecided}

pub empty_tables : (cs : List Class) (es : List ArityEntry) (slots : FinMap nat_cmp Slot) → es ≡ [] → slots ≡ empty → IsTable cs es slots
empty_tables cs es slots none no_slots = rw (none, no_slots) (record { arities = record { known = tt; places = λ k. rw (get-empty {X = Slot} nat_cmp k) (λ d q h. h.declared) }; kept = tt })

pub no_slot : (A B : Algebra) (slots : FinMap nat_cmp Slot) (k : ℕ) → A ≡ B → IsArityTable A slots → get slots k ≡ None → (d : ℕ) (q : Arity) → ¬ IsArityBelow B k d q
no_slot A B slots k same t none = subst (λ (X : Algebra). (d : ℕ) (q : Arity) → ¬ IsArityBelow X k d q) same (rw none at (t.places k))

pub slot_of : (A B : Algebra) (slots : FinMap nat_cmp Slot) (k : ℕ) (slot : Slot) → A ≡ B → IsArityTable A slots → get slots k ≡ Some slot → IsSlot B k slot
slot_of A B slots k slot same t some = subst (λ (X : Algebra). IsSlot X k slot) same (rw some at (t.places k))

-- the place by a slot: that for the class, or that of the first arity, if its class is below

pub later_place : (A : Algebra) (k d : ℕ) (slot : Slot) (i : ℕ) → get slot.later d ≡ Some i → IsSlot A k slot → IsPlace A k d i
later_place A k d slot i some s = rw some at (s.places d)

pub first_place : (A : Algebra) (k d : ℕ) (slot : Slot) → get slot.later d ≡ None → IsSlot A k slot → IsPlaceIfBelow A k d slot.first
first_place A k d slot none s = rw none at (s.places d)

-- the arity that code reads at the place
read_at : (es : List ArityEntry) (bs : List Arity) (i : ℕ) (e : ArityEntry) → arities_of es ≡ bs → e ≡ get_or es i e → get_or bs i (arity_of e) ≡ arity_of e
read_at es bs i e are read = rw (← are) (get_or-map arity_of es i e ∙ ap arity_of (sym read))

pub first_below : (A : Algebra) (es : List ArityEntry) (e : ArityEntry) (k d : ℕ) (slot : Slot) → arities_of es ≡ A.arities → e ≡ get_or es slot.first e → IsClassBelow A e.class d → get slot.later d ≡ None → IsSlot A k slot → IsPlace A k d slot.first
first_below A es e k d slot are read below none s = (first_place A k d slot none s).below (arity_of e) (rw (read_at es A.arities slot.first e are read) below)

pub first_apart : (A : Algebra) (es : List ArityEntry) (e : ArityEntry) (k d : ℕ) (slot : Slot) → arities_of es ≡ A.arities → e ≡ get_or es slot.first e → ¬ IsClassBelow A e.class d → get slot.later d ≡ None → IsSlot A k slot → (q : Arity) → ¬ IsArityBelow A k d q
first_apart A es e k d slot are read apart none s = (first_place A k d slot none s).apart (arity_of e) (rw (read_at es A.arities slot.first e are read) apart)

-- with one more class

same_read : {T : Type 0} (xs : List T) (i : ℕ) (d : T) → i < length xs → get_or xs i d ≡ get_or xs i (get_or xs i d)
same_read [] i d within = absurd (omega arith)
same_read (x ∷ xs) zero d within = refl
same_read (x ∷ xs) (suc i) d within = same_read xs i d (omega arith)

slot_after : (A : Algebra) (l : Class) → Follows [] A.classes → ¬ IsDeclared A.classes l.name → Each (IsKnown A.classes) A.arities → (k : ℕ) (slot : Slot) → IsSlot A k slot → IsSlot (with_class A l) k slot
slot_after A l f fresh known k slot s = record { first = s.first; places = λ d. by d (get slot.later d) (s.places d) }
  where
    of_known : (e : Arity) → IsDeclared A.classes (get_or A.arities slot.first e).class
    of_known e = (declared_in A (get_or A.arities slot.first e) known (read_in A.arities slot.first (get_or A.arities slot.first e) s.first (same_read A.arities slot.first e s.first))).class

    by : (d : ℕ) (o : Option ℕ) → MatchOption o (IsPlaceIfBelow A k d slot.first) (IsPlace A k d) → MatchOption o (IsPlaceIfBelow (with_class A l) k d slot.first) (IsPlace (with_class A l) k d)
    by d None p = record {
      below = λ e h. place_after A l f fresh known k d (Some slot.first) (p.below e (below_before A l f fresh (get_or A.arities slot.first e).class d (of_known e) h));
      apart = λ e h. place_after A l f fresh known k d None (p.apart e (λ b. h (below-more A (with_class A l) (has_more A l) b)));
    }
    by d (Some i) p = place_after A l f fresh known k d (Some i) p

pub table-one_class : (A B : Algebra) (l : Class) (slots : FinMap nat_cmp Slot) → A ≡ B → Follows [] A.classes → ¬ IsDeclared B.classes l.name → IsArityTable A slots → IsArityTable (with_class A l) slots
table-one_class A B l slots same f fresh t =
    let new : ¬ IsDeclared A.classes l.name = subst (λ (X : Algebra). ¬ IsDeclared X.classes l.name) (sym same) fresh in
    record { known = known_after A l t.known; places = λ k. by new k (get slots k) (t.places k) }
  where
    by : ¬ IsDeclared A.classes l.name → (k : ℕ) (o : Option Slot) → MatchOption o ((d : ℕ) (q : Arity) → ¬ IsArityBelow A k d q) (IsSlot A k) → MatchOption o ((d : ℕ) (q : Arity) → ¬ IsArityBelow (with_class A l) k d q) (IsSlot (with_class A l) k)
    by new k None p = λ d. place_after A l f new t.known k d None (p d)
    by new k (Some slot) p = slot_after A l f new t.known k slot p

-- with one more arity

-- A place stays right where the new arity is below the greatest, or isn't above some arity.
still_kept : (A : Algebra) (a : Arity) (d : ℕ) (o : Option ℕ) → MatchOption o ((q : Arity) → ¬ IsArityBelow A a.con d q) (IsPlace A a.con d) → IsCovered A a.con d a.domains ⊎ IsNotAbove A a.con d a.domains
    → MatchOption o ((q : Arity) → ¬ IsArityBelow (with_arity A a) a.con d q) (IsPlace (with_arity A a) a.con d)
still_kept A a d None none w = elim w [ inl covered ↦ absurd (none covered.0 covered.1.is) | inr n ↦ absurd (none n.0 n.1) ]
still_kept A a d (Some i) p w = elim w [ inl covered ↦ kept_covered A a d i covered p | inr n ↦ kept_place A a a.con d i (not_greatest A a a.con d n.0 n.1 n.2) p ]

kept_outside : (A : Algebra) → IsDecided A → (a : Arity) (ds : List ℕ) → AreGreater A a ds → (d : ℕ) (o : Option ℕ) → ¬ IsIn d ds → MatchOption o ((q : Arity) → ¬ IsArityBelow A a.con d q) (IsPlace A a.con d) → MatchOption o ((q : Arity) → ¬ IsArityBelow (with_arity A a) a.con d q) (IsPlace (with_arity A a) a.con d)
kept_outside A decided a ds g d o out p = elim (decided a.class d) [
  | inl below ↦ elim (g.kept d below) [ inl inside ↦ absurd (out inside) | inr w ↦ still_kept A a d o p w ]
  | inr not ↦ kept_apart A a a.con d o (λ h. not (same_order_back A a h.below)) p
]

first_kept : (A : Algebra) (a : Arity) (k d i : ℕ) → i < length A.arities → ((o : Option ℕ) → MatchOption o ((q : Arity) → ¬ IsArityBelow A k d q) (IsPlace A k d) → MatchOption o ((q : Arity) → ¬ IsArityBelow (with_arity A a) k d q) (IsPlace (with_arity A a) k d)) → IsPlaceIfBelow A k d i → IsPlaceIfBelow (with_arity A a) k d i
first_kept A a k d i within kept p = record {
  below = λ e h. kept (Some i) (p.below e (same_order_back A a (rw (old e) at h)));
  apart = λ e h. kept None (p.apart e (λ b. h (rw (old e) (same_order A a b))));
}
  where
    old : (e : Arity) → get_or (A.arities ++ a ∷ []) i e ≡ get_or A.arities i e
    old e = get_or-append A.arities (a ∷ []) e i within

-- Of a constructor without arities the new one is the first.
pub first_slot : (A : Algebra) (a : Arity) (slot : Slot) → ((d : ℕ) (q : Arity) → ¬ IsArityBelow A a.con d q) → slot.first ≡ length A.arities → slot.later ≡ empty → IsSlot (with_arity A a) a.con slot
first_slot A a slot none first later = record {
  first = omega (arith, first, length-append A.arities (a ∷ []));
  places = λ d. rw (later, get-empty nat_cmp d, first) (record {
    below = λ e h. new_place A a a.con d refl (same_order_back A a (rw (get_or-append_seam A.arities a [] e) at h)) (λ b g. absurd (none d b g.is));
    apart = λ e h q m. elim (new_or_old A a a.con d q m) [ inl same ↦ h (rw (get_or-append_seam A.arities a [] e) (rw same at m.below)) | inr old ↦ none d q old ];
  });
}

-- The slot of a constructor that has arities, with the new one at the classes where it is the greatest.
pub later_slot : (A : Algebra) → IsDecided A → (a : Arity) (ds : List ℕ) → AreGreater A a ds → (old new : Slot) (place : ℕ) → place ≡ length A.arities → new.first ≡ old.first → new.later ≡ puts old.later (map (λ (d : ℕ). (d, place)) ds) → IsSlot A a.con old → IsSlot (with_arity A a) a.con new
later_slot A decided a ds g old new place last first later s = record {
  first = omega (arith, first, s.first, length-append A.arities (a ∷ []));
  places = λ d. rw (later, first) (elim (get_placed old.later place ds d) [
    | inl w ↦ rw (w.1, last) (new_place A a a.con d refl (g.above d w.0).0 (g.above d w.0).1)
    | inr w ↦ rw w.1 (by d w.0 (get old.later d) (s.places d))
  ]);
}
  where
    by : (d : ℕ) → ¬ IsIn d ds → (o : Option ℕ) → MatchOption o (IsPlaceIfBelow A a.con d old.first) (IsPlace A a.con d) → MatchOption o (IsPlaceIfBelow (with_arity A a) a.con d old.first) (IsPlace (with_arity A a) a.con d)
    by d out None p = first_kept A a a.con d old.first s.first (λ o. kept_outside A decided a ds g d o out) p
    by d out (Some i) p = kept_outside A decided a ds g d (Some i) out p

table-one_arity : (A : Algebra) (a : Arity) (old : FinMap nat_cmp Slot) (slot : Slot) → IsArityTable A old → IsKnown A.classes a → IsSlot (with_arity A a) a.con slot → IsArityTable (with_arity A a) (insert old a.con slot)
table-one_arity A a old slot t known right = record {
  known = each-append (IsKnown A.classes) A.arities (a ∷ []) t.known (known, tt);
  places = λ k. elim (get_after old a.con slot k) [
    | inl w ↦ rw w.1 (rw w.0 right)
    | inr w ↦ rw w.1 (by k w.0 (get old k) (t.places k))
  ];
}
  where
    kept : (k d : ℕ) → ¬ (k ≡ a.con) → (o : Option ℕ) → MatchOption o ((q : Arity) → ¬ IsArityBelow A k d q) (IsPlace A k d) → MatchOption o ((q : Arity) → ¬ IsArityBelow (with_arity A a) k d q) (IsPlace (with_arity A a) k d)
    kept k d other o p = kept_apart A a k d o (λ h. other (sym h.con)) p

    slot_kept : (k d : ℕ) → ¬ (k ≡ a.con) → (i : ℕ) → i < length A.arities → (o : Option ℕ) → MatchOption o (IsPlaceIfBelow A k d i) (IsPlace A k d) → MatchOption o (IsPlaceIfBelow (with_arity A a) k d i) (IsPlace (with_arity A a) k d)
    slot_kept k d other i within None p = first_kept A a k d i within (kept k d other) p
    slot_kept k d other i within (Some j) p = kept k d other (Some j) p

    by : (k : ℕ) → ¬ (k ≡ a.con) → (o : Option Slot) → MatchOption o ((d : ℕ) (q : Arity) → ¬ IsArityBelow A k d q) (IsSlot A k) → MatchOption o ((d : ℕ) (q : Arity) → ¬ IsArityBelow (with_arity A a) k d q) (IsSlot (with_arity A a) k)
    by k other None p = λ d. kept k d other None (p d)
    by k other (Some slot) p = record { first = omega (arith, p.first, length-append A.arities (a ∷ [])); places = λ d. slot_kept k d other slot.first p.first (get slot.later d) (p.places d) }

-- The entry at a place has the arity.
pub candidate_at : (A : Algebra) (es : List ArityEntry) (k d i : ℕ) (e : ArityEntry) (domains : List (List ℕ)) → arities_of es ≡ A.arities → e ≡ get_or es i e → domains ≡ (arity_of e).domains → IsPlace A k d i → (q : Arity) × (q.domains ≡ domains) × IsGreatestIfAny A k d q
candidate_at A es k d i e domains are read there p = (arity_of e, sym there, rw (read_at es A.arities i e are read) at (p.greatest (arity_of e)))

-- the classes above a class, in the algebra of the table
pub above_in : (cs : List Class) (es : List ArityEntry) (A : Algebra) (c : ℕ) (names : List ℕ) → algebra_of cs es ≡ A → AreAllAbove cs c names → (d : ℕ) → IsIn d names ↔ IsClassBelow A c d
above_in cs es A c names same all d = rw (← same) (λ m. (below-classes (algebra_of cs es) c d).0 ((all.are d).0 m), λ h. (all.are d).1 ((below-classes (algebra_of cs es) c d).1 h))

pub entries-one_arity : (cs : List Class) (es es' : List ArityEntry) (e : ArityEntry) (B : Algebra) (old : FinMap nat_cmp Slot) (slot : Slot) → algebra_of cs es ≡ B → es' ≡ es ++ e ∷ [] → IsArityTable (algebra_of cs es) old → IsKnown B.classes (arity_of e) → IsSlot (with_arity B (arity_of e)) e.con slot → IsArityTable (algebra_of cs es') (insert old e.con slot)
entries-one_arity cs es es' e B old slot same longer t known right =
    let is : IsKnown cs (arity_of e) = subst (λ (X : Algebra). IsKnown X.classes (arity_of e)) (sym same) known in
    rw (longer, map-append arity_of es (e ∷ [])) (table-one_arity (algebra_of cs es) (arity_of e) old slot t is (subst (λ (X : Algebra). IsSlot (with_arity X (arity_of e)) e.con slot) (sym same) right))

-- The entry of a constructor for a class, by its parts.
pub arity_in : (e : ArityEntry) (con class : ℕ) (domains : List (List ℕ)) (arities : List Arity) → ((e.con ≡ con) × (e.class ≡ class)) → domains ≡ (arity_of e).domains → IsIn (arity_of e) arities → IsIn (record { con = con; domains = domains; class = class }) arities
arity_in e con class domains arities named same m = rw (← named.0, ← named.1, same) m

-- one turn of the making of arities that are the same
pub more_shared : (xs zs ys ys' : List ArityEntry) (e f : ArityEntry) → ys' ≡ ys ++ f ∷ [] → arity_of f ≡ arity_of e → arities_of zs ≡ arities_of xs ++ arity_of e ∷ [] → arities_of ys ≡ arities_of xs → arities_of ys' ≡ arities_of zs
more_shared xs zs ys ys' e f longer same read before = ap arities_of longer ∙ map-append arity_of ys (f ∷ []) ∙ ap (λ bs. bs ++ arity_of f ∷ []) before ∙ ap (λ a. arities_of xs ++ a ∷ []) same ∙ sym read

-- Where the constructor has no arity for a class below, it has none for the class.
pub none_for : (A : Algebra) (k c : ℕ) → ((q : Arity) → ¬ IsArityBelow A k c q) → ¬ HasArityFor A k c
none_for A k c none h = let b = any_some (λ b. (b.con ≡ k) × (b.class ≡ c)) A.arities h in none b.0 (record { declared = b.1; con = b.2.0; below = below_same A b.0.class c b.2.1 })

-- Where the constructor has no arity, a new one is the greatest at all classes above its own.
pub bare_greater : (A : Algebra) (a : Arity) (ds : List ℕ) → ((d : ℕ) (q : Arity) → ¬ IsArityBelow A a.con d q) → ((d : ℕ) → IsIn d ds ↔ IsClassBelow A a.class d) → AreGreater A a ds
bare_greater A a ds none are = record { above = λ d m. ((are d).0 m, λ b g. absurd (none d b g.is)); kept = λ d h. inl ((are d).1 h) }

-- Where a constructor has an arity for a class below another, its slot has a place.
pub some_greatest : (A B : Algebra) (slots : FinMap nat_cmp Slot) → A ≡ B → IsDecided B → IsArityTable A slots → (k d : ℕ) (q : Arity) → IsArityBelow B k d q → (c : Arity) × IsGreatestIfAny B k d c
some_greatest A B slots same decided t k d q m = by_slot (get slots k) (subst (λ (X : Algebra). MatchOption (get slots k) ((d : ℕ) (q : Arity) → ¬ IsArityBelow X k d q) (IsSlot X k)) same (t.places k))
  where
    at : (i : ℕ) → IsPlace B k d i → (c : Arity) × IsGreatestIfAny B k d c
    at i p = (get_or B.arities i q, p.greatest q)

    by_place : (i : ℕ) (o : Option ℕ) → MatchOption o (IsPlaceIfBelow B k d i) (IsPlace B k d) → (c : Arity) × IsGreatestIfAny B k d c
    by_place i None p = elim (decided (get_or B.arities i q).class d) [ inl below ↦ at i (p.below q below) | inr apart ↦ absurd (p.apart q apart q m) ]
    by_place i (Some j) p = at j p

    by_slot : (o : Option Slot) → MatchOption o ((d : ℕ) (q : Arity) → ¬ IsArityBelow B k d q) (IsSlot B k) → (c : Arity) × IsGreatestIfAny B k d c
    by_slot None none = absurd (none d q m)
    by_slot (Some slot) s = by_place slot.first (get slot.later d) (s.places d)
