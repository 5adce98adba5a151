-- Two ascending lists, merged.
use Rattle.std.proofs.Common.{◌≡◌, ◌↔◌, ◌⊎◌, ℕ, ◌+◌, ◌≤◌, List, [], ◌∷◌, ◌++◌, length, take, drop, ◌-◌, refl, ap, sym, ◌∙◌, inl, inr, subst, zero, suc, arith, append_assoc, length-drop}
use Rattle.std.proofs.lemmas.List.{take_all}
use Rattle.std.proofs.lemmas.Option.{same_Some, slice_get_within}
use Rattle.std.specs.Prelude.{true, Some, slice_get}
use Rattle.std.specs.declared.cmp.Ordering.{Ordering}
use Rattle.std.specs.declared.cmp.Ordering.TheVariants.{Less, Equal, Greater}
use Rattle.std.specs.Ordering.{ordering_reverse}
use Rattle.std.specs.Set.{sorted_merge}
use Rattle.std.specs.Cmp.{IsTotalOrder}
use Rattle.std.specs.List.Sorted.{IsStrictlySortedBy}
use Rattle.std.specs.List.{AllByRecursion}
use Rattle.pure_text.specs.Lists.{IsIn}

merge-less : {K : Type 0} (cmp : K → K → Ordering) (x : K) (xs : List K) (y : K) (ys : List K) → cmp x y ≡ Less → sorted_merge cmp true (x ∷ xs) (y ∷ ys) ≡ x ∷ sorted_merge cmp true xs (y ∷ ys)
merge-less cmp x xs y ys e = rw e refl

merge-equal : {K : Type 0} (cmp : K → K → Ordering) (x : K) (xs : List K) (y : K) (ys : List K) → cmp x y ≡ Equal → sorted_merge cmp true (x ∷ xs) (y ∷ ys) ≡ x ∷ sorted_merge cmp true xs ys
merge-equal cmp x xs y ys e = rw e refl

merge-greater : {K : Type 0} (cmp : K → K → Ordering) (x : K) (xs : List K) (y : K) (ys : List K) → cmp x y ≡ Greater → sorted_merge cmp true (x ∷ xs) (y ∷ ys) ≡ y ∷ sorted_merge cmp true (x ∷ xs) ys
merge-greater cmp x xs y ys e = rw e refl

merge-none : {K : Type 0} (cmp : K → K → Ordering) (xs : List K) → sorted_merge cmp true xs [] ≡ xs
merge-none cmp [] = refl
merge-none cmp (x ∷ xs) = refl

-- The lists are merged as far as places i and j.
pub record Merges {K : Type 0} (cmp : K → K → Ordering) (left right : List K) (i j : ℕ) (out : List K) : Type 0 where
  pub left_within : i ≤ length left
  pub right_within : j ≤ length right
  pub rest : out ++ sorted_merge cmp true (drop i left) (drop j right) ≡ sorted_merge cmp true left right

-- One of the two lists is at its end.
pub past_end : {K : Type 0} (xs : List K) (i : ℕ) → length xs ≤ i → drop i xs ≡ []
past_end [] zero h = refl
past_end [] (suc i) h = refl
past_end (x ∷ xs) zero h = absurd (omega arith)
past_end (x ∷ xs) (suc i) h = past_end xs i (omega arith)

right_none : {K : Type 0} (cmp : K → K → Ordering) (xs : List K) → xs ++ [] ≡ sorted_merge cmp true xs []
right_none cmp [] = refl
right_none cmp (x ∷ xs) = ap (λ ys. x ∷ ys) (right_none cmp xs ∙ merge-none cmp xs)

last : {K : Type 0} (cmp : K → K → Ordering) (left right : List K) (i j : ℕ) → (length left ≤ i) ⊎ (length right ≤ j) → drop i left ++ drop j right ≡ sorted_merge cmp true (drop i left) (drop j right)
last cmp left right i j (inl h) = rw (past_end left i h) refl
last cmp left right i j (inr h) = rw (past_end right j h) (right_none cmp (drop i left))

-- What is left of the two lists is put behind.
pub merges-end : {K : Type 0} (cmp : K → K → Ordering) (left right : List K) (i j : ℕ) (out : List K) → Merges cmp left right i j out → (length left ≤ i) ⊎ (length right ≤ j)
    → (out ++ drop i left) ++ drop j right ≡ sorted_merge cmp true left right
merges-end cmp left right i j out m end = append_assoc out (drop i left) (drop j right) ∙ (ap (λ zs. out ++ zs) (last cmp left right i j end) ∙ m.rest)

-- what is left of a list from a place on
tail : {K : Type 0} (xs : List K) (i : ℕ) → take (length xs - i) (drop i xs) ≡ drop i xs
tail xs i = take_all (length xs - i) (drop i xs) (rw length-drop (omega arith))

pub merges-all : {K : Type 0} (cmp : K → K → Ordering) (left right : List K) (i j : ℕ) (out : List K) → Merges cmp left right i j out → (length left ≤ i) ⊎ (length right ≤ j)
    → (out ++ take (length left - i) (drop i left)) ++ take (length right - j) (drop j right) ≡ sorted_merge cmp true left right
merges-all cmp left right i j out m end = (λ n. (out ++ tail left i n) ++ tail right j n) ∙ merges-end cmp left right i j out m end

-- the element at a place, and what stands behind it
pub drop_at : {K : Type 0} (xs : List K) (i : ℕ) (x : K) → slice_get xs i ≡ Some x → drop i xs ≡ x ∷ drop (i + 1) xs
drop_at [] i x h = absurd (cc)
drop_at (y ∷ xs) zero x h = ap (λ z. z ∷ xs) (same_Some y x h)
drop_at (y ∷ xs) (suc i) x h = let next : suc i + 1 ≡ suc (i + 1) = omega arith in rw next (drop_at xs i x h)

-- A turn puts one element behind what was merged, and what is left is merged further.
further : {K : Type 0} (out more rest now whole : List K) (x : K) → more ≡ out ++ x ∷ [] → now ≡ x ∷ rest → out ++ now ≡ whole → more ++ rest ≡ whole
further out more rest now whole x longer front so_far =
    ap (λ zs. zs ++ rest) longer ∙ append_assoc out (x ∷ []) rest ∙ ap (λ zs. out ++ zs) (sym front) ∙ so_far

pub merges-left : {K : Type 0} (cmp : K → K → Ordering) (left right : List K) (i j : ℕ) (out more : List K) (x y : K) → Merges cmp left right i j out → slice_get left i ≡ Some x → slice_get right j ≡ Some y
    → cmp x y ≡ Less → more ≡ out ++ x ∷ [] → Merges cmp left right (i + 1) j more
merges-left cmp left right i j out more x y m first second order longer = record {
  left_within = let h = slice_get_within left i x first in omega arith;
  right_within = m.right_within;
  rest = further out more (sorted_merge cmp true (drop (i + 1) left) (drop j right)) (sorted_merge cmp true (drop i left) (drop j right)) (sorted_merge cmp true left right) x longer
      ((λ n. sorted_merge cmp true (drop_at left i x first n) (drop_at right j y second n)) ∙ merge-less cmp x (drop (i + 1) left) y (drop (j + 1) right) order
      ∙ ap (λ zs. x ∷ sorted_merge cmp true (drop (i + 1) left) zs) (sym (drop_at right j y second))) m.rest;
}

pub merges-right : {K : Type 0} (cmp : K → K → Ordering) (left right : List K) (i j : ℕ) (out more : List K) (x y : K) → Merges cmp left right i j out → slice_get left i ≡ Some x → slice_get right j ≡ Some y
    → cmp x y ≡ Greater → more ≡ out ++ y ∷ [] → Merges cmp left right i (j + 1) more
merges-right cmp left right i j out more x y m first second order longer = record {
  left_within = m.left_within;
  right_within = let h = slice_get_within right j y second in omega arith;
  rest = further out more (sorted_merge cmp true (drop i left) (drop (j + 1) right)) (sorted_merge cmp true (drop i left) (drop j right)) (sorted_merge cmp true left right) y longer
      ((λ n. sorted_merge cmp true (drop_at left i x first n) (drop_at right j y second n)) ∙ merge-greater cmp x (drop (i + 1) left) y (drop (j + 1) right) order
      ∙ ap (λ zs. y ∷ sorted_merge cmp true zs (drop (j + 1) right)) (sym (drop_at left i x first))) m.rest;
}

pub merges-both : {K : Type 0} (cmp : K → K → Ordering) (left right : List K) (i j : ℕ) (out more : List K) (x y : K) → Merges cmp left right i j out → slice_get left i ≡ Some x → slice_get right j ≡ Some y
    → cmp x y ≡ Equal → more ≡ out ++ x ∷ [] → Merges cmp left right (i + 1) (j + 1) more
merges-both cmp left right i j out more x y m first second order longer = record {
  left_within = let h = slice_get_within left i x first in omega arith;
  right_within = let h = slice_get_within right j y second in omega arith;
  rest = further out more (sorted_merge cmp true (drop (i + 1) left) (drop (j + 1) right)) (sorted_merge cmp true (drop i left) (drop j right)) (sorted_merge cmp true left right) x longer
      ((λ n. sorted_merge cmp true (drop_at left i x first n) (drop_at right j y second n)) ∙ merge-equal cmp x (drop (i + 1) left) y (drop (j + 1) right) order) m.rest;
}

-- What stands in two lists merged stands in one of them, and the other way round.
step : {K : Type 0} (cmp : K → K → Ordering) (equal : (x y : K) → cmp x y ≡ Equal → x ≡ y) (c x : K) (xs : List K) (y : K) (ys : List K) (o : Ordering) → cmp x y ≡ o
    → (IsIn c (sorted_merge cmp true xs (y ∷ ys)) ↔ (IsIn c xs ⊎ IsIn c (y ∷ ys))) → (IsIn c (sorted_merge cmp true xs ys) ↔ (IsIn c xs ⊎ IsIn c ys))
    → (IsIn c (sorted_merge cmp true (x ∷ xs) ys) ↔ (IsIn c (x ∷ xs) ⊎ IsIn c ys)) → IsIn c (sorted_merge cmp true (x ∷ xs) (y ∷ ys)) ↔ (IsIn c (x ∷ xs) ⊎ IsIn c (y ∷ ys))
step cmp equal c x xs y ys Less e left both right = (
  λ m. elim (subst (IsIn c) (merge-less cmp x xs y ys e) m) [ inl f ↦ inl (inl f) | inr n ↦ elim (left.0 n) [ inl a ↦ inl (inr a) | inr b ↦ inr b ] ],
  λ m. subst (IsIn c) (sym (merge-less cmp x xs y ys e)) (elim m [ inl a ↦ elim a [ inl f ↦ inl f | inr n ↦ inr (left.1 (inl n)) ] | inr b ↦ inr (left.1 (inr b)) ]),
)
step cmp equal c x xs y ys Equal e left both right = (
  λ m. elim (subst (IsIn c) (merge-equal cmp x xs y ys e) m) [ inl f ↦ inl (inl f) | inr n ↦ elim (both.0 n) [ inl a ↦ inl (inr a) | inr b ↦ inr (inr b) ] ],
  λ m. subst (IsIn c) (sym (merge-equal cmp x xs y ys e))
      (elim m [ inl a ↦ elim a [ inl f ↦ inl f | inr n ↦ inr (both.1 (inl n)) ] | inr b ↦ elim b [ inl f ↦ inl (f ∙ sym (equal x y e)) | inr n ↦ inr (both.1 (inr n)) ] ]),
)
step cmp equal c x xs y ys Greater e left both right = (
  λ m. elim (subst (IsIn c) (merge-greater cmp x xs y ys e) m) [ inl f ↦ inr (inl f) | inr n ↦ elim (right.0 n) [ inl a ↦ inl a | inr b ↦ inr (inr b) ] ],
  λ m. subst (IsIn c) (sym (merge-greater cmp x xs y ys e)) (elim m [ inl a ↦ inr (right.1 (inl a)) | inr b ↦ elim b [ inl f ↦ inl f | inr n ↦ inr (right.1 (inr n)) ] ]),
)

pub in-merged : {K : Type 0} (cmp : K → K → Ordering) (equal : (x y : K) → cmp x y ≡ Equal → x ≡ y) (c : K) (xs ys : List K) → IsIn c (sorted_merge cmp true xs ys) ↔ (IsIn c xs ⊎ IsIn c ys)
in-merged cmp equal c [] ys = (λ m. inr m, λ m. elim m [ inl n ↦ absurd n | inr n ↦ n ])
in-merged {K} cmp equal c (x ∷ xs) ys = at ys (λ zs. in-merged cmp equal c xs zs)
  where
    at : (ys : List K) → ((zs : List K) → IsIn c (sorted_merge cmp true xs zs) ↔ (IsIn c xs ⊎ IsIn c zs)) → IsIn c (sorted_merge cmp true (x ∷ xs) ys) ↔ (IsIn c (x ∷ xs) ⊎ IsIn c ys)
    at [] later = (λ m. inl m, λ m. elim m [ inl n ↦ n | inr n ↦ absurd n ])
    at (y ∷ ys) later = step cmp equal c x xs y ys (cmp x y) refl (later (y ∷ ys)) (later ys) (at ys later)

-- Two ascending lists, merged, ascend.
all_of : {K : Type 0} (P : K → Type 0) (xs : List K) → ((x : K) → IsIn x xs → P x) → AllByRecursion P xs
all_of P [] h = tt
all_of P (x ∷ xs) h = (h x (inl refl), all_of P xs (λ y m. h y (inr m)))

all-at : {K : Type 0} (P : K → Type 0) (x : K) (xs : List K) → AllByRecursion P xs → IsIn x xs → P x
all-at P x [] a m = absurd m
all-at P x (y ∷ ys) a m = elim m [ inl e ↦ subst P (sym e) a.0 | inr n ↦ all-at P x ys a.1 n ]

all-merged : {K : Type 0} (cmp : K → K → Ordering) (equal : (x y : K) → cmp x y ≡ Equal → x ≡ y) (P : K → Type 0) (xs ys : List K) → AllByRecursion P xs → AllByRecursion P ys → AllByRecursion P (sorted_merge cmp true xs ys)
all-merged cmp equal P xs ys a b =
    all_of P (sorted_merge cmp true xs ys) (λ z m. elim ((in-merged cmp equal z xs ys).0 m) [ inl n ↦ all-at P z xs a n | inr n ↦ all-at P z ys b n ])

-- each key of the list is above x
abbrev Above : {K : Type 0} → (K → K → Ordering) → K → List K → Type 0
Above cmp x = AllByRecursion (λ z. cmp x z ≡ Less)

above-less : {K : Type 0} (cmp : K → K → Ordering) → IsTotalOrder cmp → (x y : K) (ys : List K) → cmp x y ≡ Less → Above cmp y ys → Above cmp x ys
above-less cmp total x y ys e a = all_of (λ z. cmp x z ≡ Less) ys (λ z m. total.trans x y z e (all-at (λ z. cmp y z ≡ Less) z ys a m))

step-ascends : {K : Type 0} (cmp : K → K → Ordering) → IsTotalOrder cmp → (equal : (x y : K) → cmp x y ≡ Equal → x ≡ y) (x : K) (xs : List K) (y : K) (ys : List K) (o : Ordering) → cmp x y ≡ o
    → Above cmp x xs → Above cmp y ys → IsStrictlySortedBy cmp (sorted_merge cmp true xs (y ∷ ys)) → IsStrictlySortedBy cmp (sorted_merge cmp true xs ys)
    → IsStrictlySortedBy cmp (sorted_merge cmp true (x ∷ xs) ys) → IsStrictlySortedBy cmp (sorted_merge cmp true (x ∷ xs) (y ∷ ys))
unfolding IsStrictlySortedBy
step-ascends cmp total equal x xs y ys Less e a b left both right =
    subst (IsStrictlySortedBy cmp) (sym (merge-less cmp x xs y ys e)) (all-merged cmp equal (λ z. cmp x z ≡ Less) xs (y ∷ ys) a (e, above-less cmp total x y ys e b), left)
step-ascends cmp total equal x xs y ys Equal e a b left both right =
    subst (IsStrictlySortedBy cmp) (sym (merge-equal cmp x xs y ys e))
    (all-merged cmp equal (λ z. cmp x z ≡ Less) xs ys a (subst (λ n. Above cmp n ys) (sym (equal x y e)) b), both)
step-ascends cmp total equal x xs y ys Greater e a b left both right =
    let less : cmp y x ≡ Less = total.antisymm y x ∙ ap ordering_reverse e in
    subst (IsStrictlySortedBy cmp) (sym (merge-greater cmp x xs y ys e)) (all-merged cmp equal (λ z. cmp y z ≡ Less) (x ∷ xs) ys (less, above-less cmp total y x xs less a) b, right)

pub merged-ascends : {K : Type 0} (cmp : K → K → Ordering) → IsTotalOrder cmp → ((x y : K) → cmp x y ≡ Equal → x ≡ y) → (xs ys : List K) → IsStrictlySortedBy cmp xs → IsStrictlySortedBy cmp ys → IsStrictlySortedBy cmp (sorted_merge cmp true xs ys)
unfolding IsStrictlySortedBy
merged-ascends cmp total equal [] ys s t = t
merged-ascends {K} cmp total equal (x ∷ xs) ys s t = at ys t (λ zs. merged-ascends cmp total equal xs zs s.1)
  where
    at : (ys : List K) → IsStrictlySortedBy cmp ys → ((zs : List K) → IsStrictlySortedBy cmp zs → IsStrictlySortedBy cmp (sorted_merge cmp true xs zs)) → IsStrictlySortedBy cmp (sorted_merge cmp true (x ∷ xs) ys)
    at [] t later = s
    at (y ∷ ys) t later = step-ascends cmp total equal x xs y ys (cmp x y) refl s.0 t.0 (later (y ∷ ys) t) (later ys t.1) (at ys t.1 later)
