-- A list and what another has beside it, as one declaration after the other.
use Rattle.std.proofs.Common.{◌≡◌, ◌⊎◌, ℕ, zero, suc, ◌+◌, List, [], ◌∷◌, ◌++◌, take, add-one, refl, ap, sym, ◌∙◌, inl, inr, append_assoc, append-nil}
use Rattle.std.specs.Prelude.{Some, slice_get}
use Rattle.pure_text.specs.Lists.{IsIn, AreDistinct}
use Rattle.pure_text.proofs.ListLaws.{in_split, in-append_left, in-append_right}
use Rattle.pure_definitions.specs.Declarations.Decl.{Decl}
use Rattle.pure_order_tables.specs.Others.{AreOthers, none, there, new, AreWithOthers}
use Rattle.pure_order_tables.proofs.OtherLaws.{others_kept, others_put, with_others}
use Rattle.pure_logic.specs.Beginning.{IsAdded}
use Rattle.pure_theory_tables.proofs.GetLaws.{take_next, new_at}

others_more : {xs ys zs : List Decl} (d : Decl) → AreOthers xs ys zs → ¬ IsIn d ys → AreOthers (xs ++ d ∷ []) ys zs
others_more d none absent = none
others_more {xs = xs} d (there {y = y} m h) absent = there (in-append_left y xs (d ∷ []) m) (others_more d h (λ i. absent (inr i)))
others_more {xs = xs} d (new {y = y} m h) absent = new (λ i. elim (in_split y xs (d ∷ []) i) [ inl old ↦ m old | inr one ↦ elim one [ inl e ↦ absent (inl (sym e)) | inr no_more ↦ absurd no_more ] ]) (others_more d h (λ i. absent (inr i)))

pub added : (ys : List Decl) {xs zs : List Decl} → AreOthers xs ys zs → AreDistinct ys → IsAdded xs ys (xs ++ zs)
added [] {xs = xs} none d = append-nil xs
added (y ∷ ys) (there m h) d = inl (m, added ys h d.1)
added (y ∷ ys) {xs = xs} (new {zs = zs} m h) d = inr (m, (rw (← append_assoc xs (y ∷ []) zs) (added ys (others_more y h d.0) d.1)))

-- Of different declarations, those that the first list hasn't are added in order.
pub added_others : (xs ys all : List Decl) → AreWithOthers xs ys all → AreDistinct ys → IsAdded xs ys all
added_others xs ys all w d = rw w.joined (added ys w.are d)

one_others : {A : Type 0} {xs ys zs us : List A} → AreOthers xs ys zs → AreOthers xs ys us → zs ≡ us
one_others none none = refl
one_others (there m h) (there n k) = one_others h k
one_others (there m h) (new n k) = absurd (n m)
one_others (new m h) (there n k) = absurd (m n)
one_others (new {y = y} m h) (new n k) = ap (λ vs. y ∷ vs) (one_others h k)

pub one_with_others : {A : Type 0} (xs ys all more : List A) → AreWithOthers xs ys all → AreWithOthers xs ys more → all ≡ more
one_with_others xs ys all more w v = w.joined ∙ ap (λ us. xs ++ us) (one_others w.are v.are) ∙ sym v.joined

-- One turn over a list of different declarations: what more has is kept, and what it lacks is put at the end.
pub others_turn : (xs ys more next : List Decl) (i : ℕ) (d : Decl) → slice_get ys i ≡ Some d → AreDistinct ys → AreWithOthers xs (take i ys) more
    → (IsIn d more × (next ≡ more)) ⊎ ((¬ IsIn d more) × (next ≡ more ++ d ∷ [])) → AreWithOthers xs (take (i + 1) ys) next
others_turn xs ys more next i d held different w (inl (m, same)) =
    let longer : take (i + 1) ys ≡ take i ys ++ d ∷ [] = rw add-one (take_next ys i d held) in
    let before : IsIn d xs = elim ((with_others xs (take i ys) more w d).0 m) [ inl a ↦ a | inr b ↦ absurd (new_at ys i d held different b) ] in
    rw same (others_kept xs (take i ys) (take (i + 1) ys) more d longer before w)
others_turn xs ys more next i d held different w (inr (n, longer_by)) =
    let longer : take (i + 1) ys ≡ take i ys ++ d ∷ [] = rw add-one (take_next ys i d held) in
    others_put xs (take i ys) (take (i + 1) ys) more next d longer longer_by (λ m. n ((with_others xs (take i ys) more w d).1 (inl m))) w

in_front : (e : Decl) (ys : List Decl) (i : ℕ) → IsIn e (take i ys) → IsIn e ys
in_front e [] zero m = absurd m
in_front e [] (suc i) m = absurd m
in_front e (y ∷ ys) zero m = absurd m
in_front e (y ∷ ys) (suc i) m = elim m [ inl same ↦ inl same | inr n ↦ inr (in_front e ys i n) ]

-- What more has by then stands in one of the two lists.
pub in_both : (xs ys more : List Decl) (i : ℕ) (e : Decl) → AreWithOthers xs (take i ys) more → IsIn e more → IsIn e (xs ++ ys)
in_both xs ys more i e w m = elim ((with_others xs (take i ys) more w e).0 m) [
  | inl a ↦ in-append_left e xs ys a
  | inr b ↦ in-append_right e xs ys (in_front e ys i b)
]
