-- Texts that are lent, put in order, and made a list again.
use Rattle.std.proofs.Common.{◌≡◌, ◌↔◌, inl, inr, ℕ, ◌+◌, ◌≤◌, List, [], ◌∷◌, ◌++◌, length, map, take, take_all, refl, sym, ◌∙◌, ap, subst, suc, arith, Some, slice_get, nat_eq}
use Rattle.std.specs.declared.cmp.Ordering.TheVariants.{Less}
use Rattle.std.specs.List.{AllByRecursion, Contains, dedup}
use Rattle.std.specs.List.Sorted.{IsStrictlySortedBy, IsSorted, IsPermutation}
use Rattle.std.specs.Cmp.Lexicographic.{pointwise, same_text, texts_ties, on_texts, on_texts_equal}
use Rattle.std.proofs.lemmas.List.{map-append}
use Rattle.std.proofs.lemmas.List.Kept.{Any-dedup, Contains-from_dedup, IsStrictlySortedBy-dedup}
use Rattle.std.proofs.lemmas.List.Sorted.{Contains-permutation, IsPermutation-sym}
use Rattle.std.proofs.lemmas.Option.{get_or_from_slice_get, slice_get_within}
use Rattle.pure_text.specs.Lists.{IsIn}
use Rattle.pure_text.proofs.ListLaws.{in-map, read_in}
use Rattle.pure_text.proofs.LoopLaws.{longer_by}
use Rattle.pure_text.proofs.AscendingTexts.{byte_order}

-- ---- lists that a loop goes through
-- one element more of the list, which is told by its place
pub lent-more : {A B : Type 0} (f : A → B) (done more : List A) (all : List B) (i : ℕ) (r : A) → slice_get all i ≡ Some (f r) → more ≡ done ++ r ∷ [] → map f done ≡ take i all → map f more ≡ take (i + 1) all
lent-more f done more all i r at longer so_far =
    ap (map f) longer ∙ map-append f done (r ∷ []) ∙ ap (λ xs. xs ++ f r ∷ []) so_far
    ∙ sym (longer_by all i (f r) (slice_get_within all i (f r) at) (sym (get_or_from_slice_get all i (f r) (f r) at)))

pub lent-all : {A : Type 0} (done all : List A) (i : ℕ) → length all ≤ i → done ≡ take i all → done ≡ all
lent-all done all i past so_far = so_far ∙ take_all i all past

-- Texts that are those of another list.
pub same-texts : (all sorted given list : List (List ℕ)) → all ≡ sorted → given ≡ list → ((t : List ℕ) → IsIn t sorted ↔ IsIn t given) → (t : List ℕ) → IsIn t all ↔ IsIn t list
same-texts all sorted given list a b h t = (λ m. subst (IsIn t) b ((h t).0 (subst (IsIn t) a m)), λ m. subst (IsIn t) (sym a) ((h t).1 (subst (IsIn t) (sym b) m)))

-- ---- in order
all-mapped : {A : Type 0} (f : A → List ℕ) (x : A) (ys : List A) → AllByRecursion (λ y. byte_order (f x) (f y) ≡ Less) ys → AllByRecursion (λ u. byte_order (f x) u ≡ Less) (map f ys)
all-mapped f x [] all = tt
all-mapped f x (y ∷ ys) all = (all.0, all-mapped f x ys all.1)

mapped-ascend : {A : Type 0} (f : A → List ℕ) (xs : List A) → IsStrictlySortedBy (λ x y. byte_order (f x) (f y)) xs → IsStrictlySortedBy byte_order (map f xs)
unfolding IsStrictlySortedBy
mapped-ascend f [] sorted = tt
mapped-ascend f (x ∷ xs) sorted = (all-mapped f x xs sorted.0, mapped-ascend f xs sorted.1)

-- A list that was sorted and then rid of repeats ascends.
pub ordered-ascend : {A : Type 0} (f : A → List ℕ) (sorted all : List A) → IsSorted (λ x y. byte_order (f x) (f y)) sorted → all ≡ dedup (λ x y. pointwise nat_eq (f x) (f y)) sorted → IsStrictlySortedBy byte_order (map f all)
ordered-ascend f sorted all ascends is =
    mapped-ascend f all (subst (IsStrictlySortedBy (λ x y. byte_order (f x) (f y))) (sym is) (IsStrictlySortedBy-dedup (on_texts f) (λ x y. texts_ties (f x) (f y)) sorted ascends))

-- ---- each once
contains-in : {K : Type 0} (x : K) (xs : List K) → Contains xs x → IsIn x xs
contains-in x xs c = read_in xs c.0 x c.1 (sym c.2)

in-contains : {K : Type 0} (x : K) (xs : List K) → IsIn x xs → Contains xs x
in-contains x [] m = absurd m
in-contains x (y ∷ ys) (inl e) = (0, omega arith, sym e)
in-contains x (y ∷ ys) (inr m) = let c = in-contains x ys m in (suc c.0, omega arith, c.2)

-- Where each element of a list has one with the same text in another, so has each text.
mapped-in : {A : Type 0} (f : A → List ℕ) (xs ys : List A) → ((x : A) → IsIn x xs → (y : A) × IsIn y ys × (f x ≡ f y)) → (t : List ℕ) → IsIn t (map f xs) → IsIn t (map f ys)
mapped-in f [] ys h t m = absurd m
mapped-in f (x ∷ xs) ys h t (inl e) = let w = h x (inl refl) in subst (λ u. IsIn u (map f ys)) (sym (e ∙ w.2)) (in-map f w.0 ys w.1)
mapped-in f (x ∷ xs) ys h t (inr m) = mapped-in f xs ys (λ z n. h z (inr n)) t m

-- A list that was sorted and then rid of repeats has the same texts.
pub ordered-same : {A : Type 0} (f : A → List ℕ) (given sorted all : List A) → IsPermutation given sorted → all ≡ dedup (λ x y. pointwise nat_eq (f x) (f y)) sorted → (t : List ℕ) → IsIn t (map f all) ↔ IsIn t (map f given)
ordered-same {A} f given sorted all moved is t = (mapped-in f all given kept t, mapped-in f given all there t)
  where
    kept : (x : A) → IsIn x all → (y : A) × IsIn y given × (f x ≡ f y)
    kept x m = (
      x,
      contains-in x given (Contains-permutation sorted given x (IsPermutation-sym given sorted moved) (Contains-from_dedup (λ x y. pointwise nat_eq (f x) (f y)) sorted x (in-contains x (dedup (λ x y. pointwise nat_eq (f x) (f y)) sorted) (subst (IsIn x) is m)))),
      refl,
    )

    there : (x : A) → IsIn x given → (y : A) × IsIn y all × (f x ≡ f y)
    there x m =
        let w = Any-dedup (on_texts_equal f) sorted x (Contains-permutation given sorted x moved (in-contains x given m)) in
        (w.1, subst (IsIn w.1) (sym is) (contains-in w.1 (dedup (λ x y. pointwise nat_eq (f x) (f y)) sorted) (w.0, w.2, w.3)), same_text (f x) (f w.1) (sym w.4))
