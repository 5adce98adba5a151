-- Ascending lists of texts are told by their elements.
use Rattle.std.proofs.Common.{◌≡◌, ℕ, Bool, true, false, List, [], ◌∷◌, refl, sym, ◌∙◌, ap, subst, nat_eq, Ordering}
use Rattle.std.specs.declared.cmp.Ordering.TheVariants.{Less, Equal, Greater}
use Rattle.std.specs.List.{AllByRecursion, list_any}
use Rattle.std.specs.List.Sorted.{IsStrictlySortedBy}
use Rattle.std.specs.Ordering.{nat_cmp, is_eq, ordering_reverse}
use Rattle.std.specs.Cmp.Lexicographic.{pointwise, slice_cmp, same_text, nat_list_cmp_total, nat_list_eq_equiv, texts_ties}
use Rattle.std.proofs.lemmas.Map.Keys.{sorted_head, sorted_tail}

-- the order of texts, byte by byte
abbrev pub byte_order : List ℕ → List ℕ → Ordering
byte_order = slice_cmp nat_cmp

-- Two texts of which neither is below the other are the same.
pub equal_texts : (x y : List ℕ) → byte_order x y ≡ Equal → x ≡ y
equal_texts x y e = same_text x y (sym (texts_ties x y ∙ ap is_eq e))

abbrev IsBelowAll : List ℕ → List (List ℕ) → Type 0
IsBelowAll x ys = AllByRecursion (λ y. byte_order x y ≡ Less) ys

-- whether two texts have the same bytes
abbrev same : List ℕ → List ℕ → Bool
same = pointwise nat_eq

-- a text below others isn't among them
not_among-below : (x : List ℕ) (ys : List (List ℕ)) → IsBelowAll x ys → list_any (same x) ys ≡ false
not_among-below x [] below = refl
not_among-below x (y ∷ ys) below =
    let apart : same x y ≡ false = texts_ties x y ∙ ap is_eq below.0 in
    rw (apart, not_among-below x ys below.1) refl

below_further : (x y : List ℕ) (zs : List (List ℕ)) → byte_order x y ≡ Less → IsBelowAll y zs → IsBelowAll x zs
below_further x y [] less below = tt
below_further x y (z ∷ zs) less below = (nat_list_cmp_total.trans x y z less below.0, below_further x y zs less below.1)

among_itself : (x : List ℕ) (xs : List (List ℕ)) → list_any (same x) (x ∷ xs) ≡ true
among_itself x xs = rw (nat_list_eq_equiv.refl x) refl

-- the lists have the same texts
abbrev HaveSame : List (List ℕ) → List (List ℕ) → Type 0
HaveSame xs ys = (t : List ℕ) → list_any (same t) xs ≡ list_any (same t) ys

not_less : (x : List ℕ) (xs : List (List ℕ)) (y : List ℕ) (ys : List (List ℕ)) → IsStrictlySortedBy byte_order (y ∷ ys) → HaveSame (x ∷ xs) (y ∷ ys) → byte_order x y ≡ Less → ⊥
not_less x xs y ys sorted have less =
    let no : list_any (same x) (y ∷ ys) ≡ false = not_among-below x (y ∷ ys) (less, below_further x y ys less (sorted_head byte_order y ys sorted)) in
    let is_one : list_any (same x) (x ∷ xs) ≡ true = among_itself x xs in
    let equal = have x in
    cc

heads_equal : (x : List ℕ) (xs : List (List ℕ)) (y : List ℕ) (ys : List (List ℕ)) → IsStrictlySortedBy byte_order (x ∷ xs) → IsStrictlySortedBy byte_order (y ∷ ys) → HaveSame (x ∷ xs) (y ∷ ys)
    → (o : Ordering) → byte_order x y ≡ o → x ≡ y
heads_equal x xs y ys a b have Less h = absurd (not_less x xs y ys b have h)
heads_equal x xs y ys a b have Equal h = equal_texts x y h
heads_equal x xs y ys a b have Greater h = absurd (not_less y ys x xs a (λ t. sym (have t)) (nat_list_cmp_total.antisymm y x ∙ ap ordering_reverse h))

tails_same : (x : List ℕ) (xs ys : List (List ℕ)) → IsBelowAll x xs → IsBelowAll x ys → HaveSame (x ∷ xs) (x ∷ ys) → (t : List ℕ) (b : Bool) → b ≡ same t x → list_any (same t) xs ≡ list_any (same t) ys
tails_same x xs ys a b have t true h =
    let e : t ≡ x = same_text t x h in
    rw e (not_among-below x xs a ∙ sym (not_among-below x ys b))
tails_same x xs ys a b have t false h = let apart : same t x ≡ false = sym h in rw apart at (have t)

-- two ascending lists with the same elements are one list
pub ascending_once : (xs ys : List (List ℕ)) → IsStrictlySortedBy byte_order xs → IsStrictlySortedBy byte_order ys → HaveSame xs ys → xs ≡ ys
ascending_once [] [] a b have = refl
ascending_once [] (y ∷ ys) a b have = let is_one : list_any (same y) (y ∷ ys) ≡ true = among_itself y ys in let equal = have y in absurd (cc)
ascending_once (x ∷ xs) [] a b have = let is_one : list_any (same x) (x ∷ xs) ≡ true = among_itself x xs in let equal = have x in absurd (cc)
ascending_once (x ∷ xs) (y ∷ ys) a b have =
    let e : x ≡ y = heads_equal x xs y ys a b have (byte_order x y) refl in
    let b' : IsStrictlySortedBy byte_order (x ∷ ys) = subst (λ z. IsStrictlySortedBy byte_order (z ∷ ys)) (sym e) b in
    let have' : HaveSame (x ∷ xs) (x ∷ ys) = subst (λ z. HaveSame (x ∷ xs) (z ∷ ys)) (sym e) have in
    let tails = ascending_once xs ys (sorted_tail byte_order x xs a) (sorted_tail byte_order x ys b')
    (λ t. tails_same x xs ys (sorted_head byte_order x xs a) (sorted_head byte_order x ys b') have' t (same t x) refl) in
    λ i. e i ∷ tails i
