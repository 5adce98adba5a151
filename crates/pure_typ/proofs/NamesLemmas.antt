-- Texts joined and compared byte by byte, and looked for in lists that ascend.
use Rattle.std.proofs.Common.{◌≡◌, ◌≢◌, ℕ, zero, suc, ◌+◌, ◌-◌, ◌<◌, ◌≤◌, List, [], ◌∷◌, ◌++◌, length, get_or, drop, refl, ap, sym, ◌∙◌, arith}
use Rattle.std.proofs.lemmas.Bool.Decides.{nat_tests}
use Rattle.std.proofs.lemmas.Option.{get_or_from_slice_get, slice_get_within}
use Rattle.std.specs.Prelude.{Bool, true, false, nat_lt, Some, None, slice_get}
use Rattle.std.specs.declared.cmp.Ordering.{Ordering}
use Rattle.std.specs.declared.cmp.Ordering.TheVariants.{Less, Equal, Greater}
use Rattle.std.specs.Ordering.{nat_cmp, ordering_then, ordering_reverse, is_eq}
use Rattle.std.specs.Cmp.{tied_itself}
use Rattle.std.specs.Cmp.Lexicographic.{slice_cmp, nat_list_cmp_total, texts_ties, bytes_decides}
use Rattle.pure_typ.specs.NameTexts.{builtin_texts, DoAscend}

-- an element of two lists, one after the other
pub slice_get-left : {X : Type 0} (xs ys : List X) (i : ℕ) (x : X) → slice_get xs i ≡ Some x → slice_get (xs ++ ys) i ≡ Some x
slice_get-left [] ys i x h = absurd (cc)
slice_get-left (z ∷ zs) ys zero x h = h
slice_get-left (z ∷ zs) ys (suc i) x h = slice_get-left zs ys i x h

pub slice_get-right : {X : Type 0} (xs ys : List X) (i : ℕ) → length xs ≤ i → slice_get (xs ++ ys) i ≡ slice_get ys (i - length xs)
slice_get-right [] ys i h = let same : i - 0 ≡ i = omega arith in rw same refl
slice_get-right (z ∷ zs) ys zero h = absurd (omega arith)
slice_get-right (z ∷ zs) ys (suc i) h =
    let less : suc i - suc (length zs) ≡ i - length zs = omega arith in
    rw less (slice_get-right zs ys i (omega arith))

pub none-joined : {X : Type 0} (xs ys : List X) (x : X) → ((n : ℕ) → slice_get xs n ≢ Some x) → ((n : ℕ) → slice_get ys n ≢ Some x) → (n : ℕ) → slice_get (xs ++ ys) n ≢ Some x
none-joined [] ys x h k n e = k n e
none-joined (z ∷ zs) ys x h k zero e = h zero e
none-joined (z ∷ zs) ys x h k (suc n) e = none-joined zs ys x (λ m. h (suc m)) k n e

-- one step of a comparison from the left
pub slice_cmp-step : (s t : List ℕ) (i x y : ℕ) → slice_get s i ≡ Some x → slice_get t i ≡ Some y
    → slice_cmp nat_cmp (drop i s) (drop i t) ≡ ordering_then (nat_cmp x y) (slice_cmp nat_cmp (drop (i + 1) s) (drop (i + 1) t))
slice_cmp-step [] t i x y h k = absurd (cc)
slice_cmp-step (a ∷ rest) [] i x y h k = absurd (cc)
slice_cmp-step (a ∷ rest) (b ∷ bs) zero x y h k = let p : a ≡ x = cc in let q : b ≡ y = cc in rw (p, q) refl
slice_cmp-step (a ∷ rest) (b ∷ bs) (suc i) x y h k =
    let next : suc i + 1 ≡ suc (i + 1) = omega arith in
    rw next (slice_cmp-step rest bs i x y h k)

pub slice_cmp-decided : (s t : List ℕ) (i x y : ℕ) (o : Ordering) → slice_get s i ≡ Some x → slice_get t i ≡ Some y → nat_cmp x y ≡ o
    → slice_cmp nat_cmp (drop i s) (drop i t) ≡ ordering_then o (slice_cmp nat_cmp (drop (i + 1) s) (drop (i + 1) t))
slice_cmp-decided s t i x y o h k e = slice_cmp-step s t i x y h k ∙ ap (λ r. ordering_then r (slice_cmp nat_cmp (drop (i + 1) s) (drop (i + 1) t))) e

-- A text goes on where the other ends.
pub slice_cmp-longer : (s t : List ℕ) (i x : ℕ) → slice_get s i ≡ Some x → slice_get t i ≡ None → slice_cmp nat_cmp (drop i s) (drop i t) ≡ Greater
slice_cmp-longer [] t i x h k = absurd (cc)
slice_cmp-longer (a ∷ rest) [] zero x h k = refl
slice_cmp-longer (a ∷ rest) [] (suc i) x h k = past rest i x h
  where
    past : (s : List ℕ) (i x : ℕ) → slice_get s i ≡ Some x → slice_cmp nat_cmp (drop i s) [] ≡ Greater
    past [] i x h = absurd (cc)
    past (b ∷ bs) zero x h = refl
    past (b ∷ bs) (suc i) x h = past bs i x h
slice_cmp-longer (a ∷ rest) (b ∷ bs) zero x h k = absurd (cc)
slice_cmp-longer (a ∷ rest) (b ∷ bs) (suc i) x h k = slice_cmp-longer rest bs i x h k

pub slice_cmp-shorter : (s t : List ℕ) (i y : ℕ) → length s ≤ i → slice_get t i ≡ Some y → slice_cmp nat_cmp (drop i s) (drop i t) ≡ Less
slice_cmp-shorter [] [] i y h k = absurd (cc)
slice_cmp-shorter [] (b ∷ bs) zero y h k = refl
slice_cmp-shorter [] (b ∷ bs) (suc i) y h k = past bs i y k
  where
    past : (t : List ℕ) (i y : ℕ) → slice_get t i ≡ Some y → slice_cmp nat_cmp [] (drop i t) ≡ Less
    past [] i y k = absurd (cc)
    past (c ∷ cs) zero y k = refl
    past (c ∷ cs) (suc i) y k = past cs i y k
slice_cmp-shorter (a ∷ rest) t zero y h k = absurd (omega arith)
slice_cmp-shorter (a ∷ rest) [] (suc i) y h k = absurd (cc)
slice_cmp-shorter (a ∷ rest) (b ∷ bs) (suc i) y h k = slice_cmp-shorter rest bs i y (omega arith) k

-- both end
pub slice_cmp-both : (s t : List ℕ) (i : ℕ) → i ≡ length s → slice_get t i ≡ None → slice_cmp nat_cmp (drop i s) (drop i t) ≡ Equal
slice_cmp-both [] [] i h k = rw h refl
slice_cmp-both [] (b ∷ bs) zero h k = absurd (cc)
slice_cmp-both [] (b ∷ bs) (suc i) h k = absurd (omega arith)
slice_cmp-both (a ∷ rest) t zero h k = absurd (omega arith)
slice_cmp-both (a ∷ rest) [] (suc i) h k = ended rest i (omega arith)
  where
    ended : (s : List ℕ) (i : ℕ) → i ≡ length s → slice_cmp nat_cmp (drop i s) [] ≡ Equal
    ended [] i h = rw h refl
    ended (b ∷ bs) zero h = absurd (omega arith)
    ended (b ∷ bs) (suc i) h = ended bs i (omega arith)
slice_cmp-both (a ∷ rest) (b ∷ bs) (suc i) h k = slice_cmp-both rest bs i (omega arith) k

-- The order of two texts is Equal exactly where they are the same.
pub same-where-equal : (s t : List ℕ) → is_eq (slice_cmp nat_cmp s t) ≡ true → s ≡ t
same-where-equal s t h = (bytes_decides s t).0 (texts_ties s t ∙ h)

pub equal-where-same : (s t : List ℕ) → s ≡ t → is_eq (slice_cmp nat_cmp s t) ≡ true
equal-where-same s t e = sym (texts_ties s t) ∙ (bytes_decides s t).1 e

pub length-builtin_texts : length builtin_texts ≡ 6
unfolding builtin_texts
length-builtin_texts = refl

-- The texts below `low` are below the text that is looked for, and those from `high` on are above it.
pub record Narrows (texts : List (List ℕ)) (w : List ℕ) (low high : ℕ) : Type 0 where
  pub below : (k : ℕ) (d : List ℕ) → k < low → slice_cmp nat_cmp (get_or texts k d) w ≡ Less
  pub above : (k : ℕ) (d : List ℕ) → high ≤ k → k < length texts → slice_cmp nat_cmp (get_or texts k d) w ≡ Greater
  pub ordered : low ≤ high
  pub within : high ≤ length texts

pub narrows-up : (texts : List (List ℕ)) (w t : List ℕ) (low high middle : ℕ) → DoAscend texts → Narrows texts w low high → middle < high → slice_get texts middle ≡ Some t
    → slice_cmp nat_cmp t w ≡ Less → Narrows texts w (middle + 1) high
narrows-up texts w t low high middle ascend n m e less = record { below = below; above = n.above; ordered = omega arith; within = n.within }
  where
    here : (d : List ℕ) → slice_cmp nat_cmp (get_or texts middle d) w ≡ Less
    here d = let same : get_or texts middle d ≡ t = get_or_from_slice_get texts middle t d e in rw same less

    below : (k : ℕ) (d : List ℕ) → k < middle + 1 → slice_cmp nat_cmp (get_or texts k d) w ≡ Less
    below k d h = by (nat_lt k middle) refl
      where
        by : (b : Bool) → nat_lt k middle ≡ b → slice_cmp nat_cmp (get_or texts k d) w ≡ Less
        by true f =
            let lt : k < middle = grind (arith, nat_tests) in
            nat_list_cmp_total.trans (get_or texts k d) (get_or texts middle d) w (ascend k middle d lt (omega (arith, n.within))) (here d)
        by false f = let same : k ≡ middle = grind (arith, nat_tests) in rw same (here d)

pub narrows-down : (texts : List (List ℕ)) (w t : List ℕ) (low high middle : ℕ) → DoAscend texts → Narrows texts w low high → low ≤ middle → middle < high → slice_get texts middle ≡ Some t
    → slice_cmp nat_cmp t w ≡ Greater → Narrows texts w low middle
narrows-down texts w t low high middle ascend n l m e greater = record { below = n.below; above = above; ordered = l; within = omega (arith, n.within) }
  where
    here : (d : List ℕ) → slice_cmp nat_cmp (get_or texts middle d) w ≡ Greater
    here d = let same : get_or texts middle d ≡ t = get_or_from_slice_get texts middle t d e in rw same greater

    flipped : (x y : List ℕ) → slice_cmp nat_cmp x y ≡ Greater → slice_cmp nat_cmp y x ≡ Less
    flipped x y h = nat_list_cmp_total.antisymm y x ∙ ap ordering_reverse h

    raised : (x y : List ℕ) → slice_cmp nat_cmp x y ≡ Less → slice_cmp nat_cmp y x ≡ Greater
    raised x y h = nat_list_cmp_total.antisymm y x ∙ ap ordering_reverse h

    above : (k : ℕ) (d : List ℕ) → middle ≤ k → k < length texts → slice_cmp nat_cmp (get_or texts k d) w ≡ Greater
    above k d h b = by (nat_lt middle k) refl
      where
        by : (b : Bool) → nat_lt middle k ≡ b → slice_cmp nat_cmp (get_or texts k d) w ≡ Greater
        by true f =
            let lt : middle < k = grind (arith, nat_tests) in
            raised w (get_or texts k d) (nat_list_cmp_total.trans w (get_or texts middle d) (get_or texts k d) (flipped (get_or texts middle d) w (here d)) (ascend middle k d lt b))
        by false f = let same : k ≡ middle = grind (arith, nat_tests) in rw same (here d)

-- A text isn't at a place where the order isn't Equal.
pub narrows-none : (texts : List (List ℕ)) (w : List ℕ) (low high : ℕ) → Narrows texts w low high → high ≤ low → (n : ℕ) → slice_get texts n ≢ Some w
narrows-none texts w low high h met n e = by (nat_lt n low) refl
  where
    there : get_or texts n w ≡ w
    there = get_or_from_slice_get texts n w w e

    itself : slice_cmp nat_cmp w w ≡ Equal
    itself = tied_itself nat_list_cmp_total w

    within : n < length texts
    within = slice_get_within texts n w e

    by : (b : Bool) → nat_lt n low ≡ b → ⊥
    by true f = let lt : n < low = grind (arith, nat_tests) in let less = rw there at (h.below n w lt) in let o = itself in absurd (cc)
    by false f = let ge : low ≤ n = grind (arith, nat_tests) in let more = rw there at (h.above n w (omega arith) within) in let o = itself in absurd (cc)

pub Some-inj : {X : Type 0} {x y : X} → Some x ≡ Some y → x ≡ y
Some-inj h = cc

-- The session's names follow those of Pure.
pub slice_get-builtin : (texts : List (List ℕ)) (i : ℕ) → slice_get (builtin_texts ++ texts) (i + 6) ≡ slice_get texts i
slice_get-builtin texts i =
    let six = length-builtin_texts in
    let rest : i + 6 - length builtin_texts ≡ i = omega arith in
    slice_get-right builtin_texts texts (i + 6) (omega arith) ∙ ap (slice_get texts) rest
