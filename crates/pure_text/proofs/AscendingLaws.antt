-- Lists of numbers that ascend strictly: what a search finds in them, and what keeps them ascending.
use Rattle.std.proofs.Common.{suc, zero, ◌≡◌, ℕ, ◌+◌, ◌<◌, ◌≤◌, List, [], ◌∷◌, ◌++◌, length, get_or, take, drop, take-append-drop, refl, sym, inl, inr, ◌⊎◌, ◌↔◌, arith, add-one, length-append, length-take, get_or-take, ◌∙◌, Result, Ok, Err, is_ok, IsTrue, false}
use Rattle.std.specs.Result.{MatchResult}
use Rattle.std.specs.Ordering.{nat_cmp}
use Rattle.std.specs.List.{insert}
use Rattle.std.specs.List.Sorted.{IsStrictlyIncreasing, IsBinarySearchResult}
use Rattle.std.proofs.Math.ListN.{get_or-append}
use Rattle.std.proofs.Math.Seq.{get_or-append_seam}
use Rattle.std.proofs.lemmas.Grind.{get_or_default_zero}
use Rattle.std.proofs.lemmas.List.Edits.{get_or-insert_at, get_or-insert_below, get_or-insert_above, length-insert}
use Rattle.std.proofs.lemmas.List.Kept.{AllPairs-from_increasing}
use Rattle.std.proofs.lemmas.List.Sorted.{searched}
use Rattle.pure_text.specs.Lists.{IsIn}
use Rattle.pure_text.proofs.ListLaws.{in-append_left, in-append_right, in_split}

-- the place of an element
pub place_in : (x : ℕ) (xs : List ℕ) → IsIn x xs → (k : ℕ) × (k < length xs) × (get_or xs k 0 ≡ x)
place_in x [] m = absurd m
place_in x (y ∷ ys) m = elim m [ inl e ↦ (0, omega arith, sym e) | inr n ↦ (let w = place_in x ys n in (suc w.0, omega arith, w.2)) ]

pub in_at_place : (xs : List ℕ) (k : ℕ) → k < length xs → IsIn (get_or xs k 0) xs
in_at_place [] k h = absurd (omega arith)
in_at_place (x ∷ xs) zero h = inl refl
in_at_place (x ∷ xs) (suc k) h = inr (in_at_place xs k (omega arith))

pub in_at : (xs : List ℕ) (k x : ℕ) → k < length xs → get_or xs k 0 ≡ x → IsIn x xs
in_at xs k x h e = rw (← e) (in_at_place xs k h)

-- an element that was read earlier is less
pub below_next : (xs : List ℕ) (i r x : ℕ) → IsStrictlyIncreasing xs → i < length xs → r ≡ get_or xs i r → IsIn x (take i xs) → x < r
below_next xs i r x up within read m =
    let w = place_in x (take i xs) m in
    let short : length (take i xs) ≤ i = omega (arith, length-take i xs) in
    let there : get_or xs w.0 0 ≡ x = sym (get_or-take i xs w.0 0 (omega arith)) ∙ w.2 in
    let far = AllPairs-from_increasing xs up w.0 i 0 (omega arith) within in
    let zeroed = get_or_default_zero xs i r within in
    omega arith

pub push_ascends : (kept : List ℕ) (r : ℕ) → IsStrictlyIncreasing kept → ((x : ℕ) → IsIn x kept → x < r) → IsStrictlyIncreasing (kept ++ r ∷ [])
push_ascends kept r up below k within =
    let long = length-append kept (r ∷ []) in
    elim (inside_or_last k (length kept) (omega arith)) [
      | inl inside ↦ rw (get_or-append kept (r ∷ []) 0 k (omega arith), get_or-append kept (r ∷ []) 0 (k + 1) inside) (up k inside)
      | inr last ↦ (let here : k < length kept = omega arith in
          let at : get_or (kept ++ r ∷ []) (k + 1) 0 ≡ r = rw last (get_or-append_seam kept r [] 0) in
          rw (get_or-append kept (r ∷ []) 0 k here, at) (below (get_or kept k 0) (in_at_place kept k here)))
    ]
  where
    inside_or_last : (k n : ℕ) → k < n → (k + 1 < n) ⊎ (k + 1 ≡ n)
    inside_or_last k n h = grind arith

-- what a search for a number finds
abbrev pub Finds : List ℕ → ℕ → Result ℕ ℕ → Type 0
Finds xs x r = MatchResult r (λ i. (i < length xs) × (get_or xs i 0 ≡ x)) (λ i. (i ≤ length xs) × ((k : ℕ) → k < i → get_or xs k 0 < x) × ((k : ℕ) → i ≤ k → k < length xs → x < get_or xs k 0))

pub finds : (xs : List ℕ) (x : ℕ) (r : Result ℕ ℕ) → IsStrictlyIncreasing xs → IsBinarySearchResult (λ y. nat_cmp y x) xs r → Finds xs x r
finds xs x r up found = searched xs x r found (λ i j le within. elim (below_or_same i j le) [
  | inl less ↦ (let far = AllPairs-from_increasing xs up i j 0 less within in omega arith)
  | inr same ↦ rw same (omega arith)
])
  where
    below_or_same : (i j : ℕ) → i ≤ j → (i < j) ⊎ (i ≡ j)
    below_or_same i j h = grind arith

pub found-in : (xs : List ℕ) (x i : ℕ) → Finds xs x (Ok i) → IsIn x xs
found-in xs x i f = in_at xs i x f.0 f.1

pub missed-absent : (xs : List ℕ) (x i : ℕ) → Finds xs x (Err i) → ¬ IsIn x xs
missed-absent xs x i f m =
    let w = place_in x xs m in
    elim (before_or_from w.0 i) [
      | inl before ↦ (let less = f.1 w.0 before in absurd (omega (arith, w.2)))
      | inr from ↦ (let more = f.2 w.0 from w.1 in absurd (omega (arith, w.2)))
    ]
  where
    before_or_from : (k i : ℕ) → (k < i) ⊎ (i ≤ k)
    before_or_from k i = grind arith

pub found_or_not : (xs : List ℕ) (x : ℕ) (r : Result ℕ ℕ) → Finds xs x r → IsTrue (is_ok r) ↔ IsIn x xs
found_or_not xs x (Ok i) f = (λ t. found-in xs x i f, λ m. refl)
found_or_not xs x (Err i) f = (λ t. absurd (false_not_true t), λ m. absurd (missed-absent xs x i f m))
  where
    false_not_true : IsTrue false → ⊥
    false_not_true t = cc

pub in-insert : (xs : List ℕ) (i y x : ℕ) → IsIn x (insert xs i y) ↔ ((x ≡ y) ⊎ IsIn x xs)
in-insert xs i y x = (there, back)
  where
    joined : take i xs ++ drop i xs ≡ xs
    joined = take-append-drop i xs

    there : IsIn x (take i xs ++ (y ∷ drop i xs)) → (x ≡ y) ⊎ IsIn x xs
    there m = elim (in_split x (take i xs) (y ∷ drop i xs) m) [
      | inl front ↦ inr (rw (← joined) (in-append_left x (take i xs) (drop i xs) front))
      | inr rest ↦ elim rest [ inl e ↦ inl e | inr later ↦ inr (rw (← joined) (in-append_right x (take i xs) (drop i xs) later)) ]
    ]

    back : (x ≡ y) ⊎ IsIn x xs → IsIn x (take i xs ++ (y ∷ drop i xs))
    back w = elim w [
      | inl e ↦ in-append_right x (take i xs) (y ∷ drop i xs) (inl e)
      | inr m ↦ (let both : IsIn x (take i xs ++ drop i xs) = rw joined m in elim (in_split x (take i xs) (drop i xs) both) [
        | inl front ↦ in-append_left x (take i xs) (y ∷ drop i xs) front
        | inr later ↦ in-append_right x (take i xs) (y ∷ drop i xs) (inr later)
      ])
    ]

beyond : (xs : List ℕ) (i y : ℕ) → IsStrictlyIncreasing xs → i ≤ length xs → (k : ℕ) → i < k → k < length xs → get_or (insert xs i y) k 0 < get_or (insert xs i y) (k + 1) 0
beyond xs i y up le zero after within = absurd (omega arith)
beyond xs i y up le (suc k) after within =
    let one : get_or (insert xs i y) (suc k) 0 ≡ get_or xs k 0 = rw (← add-one k) (get_or-insert_above xs i y 0 k (omega arith) le) in
    let two = get_or-insert_above xs i y 0 (suc k) (omega arith) le in
    rw (one, two) (AllPairs-from_increasing xs up k (suc k) 0 (omega arith) within)

-- A number that is put in where a search missed it keeps the list ascending.
pub insert_ascends : (xs : List ℕ) (i y : ℕ) → IsStrictlyIncreasing xs → Finds xs y (Err i) → IsStrictlyIncreasing (insert xs i y)
insert_ascends xs i y up f k within =
    let le = f.0 in
    let long = length-insert xs i y le in
    elim (by_order k i) [
      | inl first ↦ elim first [
        | inl far ↦ rw (get_or-insert_below xs i y 0 k (omega arith) le, get_or-insert_below xs i y 0 (k + 1) far le) (up k (omega arith))
        | inr just ↦ rw (get_or-insert_below xs i y 0 k (omega arith) le) (let here : get_or (insert xs i y) (k + 1) 0 ≡ y = rw (← just) (get_or-insert_at xs i y 0 le) in rw here (f.1 k (omega arith)))
      ]
      | inr second ↦ elim second [
        | inl here ↦ rw (get_or-insert_above xs i y 0 k (omega arith) le) (let at : get_or (insert xs i y) k 0 ≡ y = rw (← here) (get_or-insert_at xs i y 0 le) in rw at (f.2 k (omega arith) (omega arith)))
        | inr after ↦ beyond xs i y up le k after (omega arith)
      ]
    ]
  where
    by_order : (k i : ℕ) → ((k + 1 < i) ⊎ (i ≡ k + 1)) ⊎ ((i ≡ k) ⊎ (i < k))
    by_order k i = grind arith
