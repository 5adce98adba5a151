-- What is found in a list of pairs.
use Rattle.std.proofs.Common.{◌≡◌, ℕ, zero, suc, ◌+◌, ◌-◌, ◌≤◌, ◌<◌, List, [], ◌∷◌, length, get_or, take, drop, drop-cons, add-one, None, Some, refl, sym, ap, ◌∙◌, arith, true, false, nat_lt}
use Rattle.std.specs.Ordering.{nat_cmp}
use Rattle.std.specs.FinMap.{find}
use Rattle.std.specs.List.{AllWithin}
use Rattle.std.specs.List.Sorted.{IsNonDecreasingBy}
use Rattle.std.proofs.lemmas.Bool.Decides.{nat_tests}
use Rattle.std.proofs.lemmas.List.{drop-map}
use Rattle.std.proofs.lemmas.Option.{same_Some}
use Rattle.std.specs.Prelude.{slice_get}
use Rattle.pure_text.specs.Lists.{Each}
use Rattle.pure_text.proofs.ListLaws.{each_imply}
use Rattle.pure_shared_maps.specs.declared.entries.Entry.{Entry}
use Rattle.pure_shared_maps.specs.Pairs.{Ascends, IsPlaceOf}
use Rattle.pure_shared_maps.specs.View.{pair_of, pairs_of}

module _ {V : Type 0} where
  -- A key that is less than each key isn't found.
  pub find-above : (key : ℕ) (ps : List (ℕ × V)) → Each (λ p. key < p.0) ps → find nat_cmp key ps ≡ None
  find-above key [] h = refl
  find-above key (p ∷ ps) h = grind (arith, nat_tests, h.0, find-above key ps h.1)

  -- Pairs whose keys are less are passed over.
  pub find-rest : (key place : ℕ) (ps : List (ℕ × V)) → Each (λ p. p.0 < key) (take place ps) → find nat_cmp key ps ≡ find nat_cmp key (drop place ps)
  find-rest key zero ps h = refl
  find-rest key (suc place) [] h = refl
  find-rest key (suc place) (p ∷ ps) h = grind (arith, nat_tests, h.0, find-rest key place ps h.1)

  pub each_above : (k m : ℕ) (ps : List (ℕ × V)) → k < m → Each (λ p. m ≤ p.0) ps → Each (λ p. k < p.0) ps
  each_above k m ps less h = each_imply (λ p. m ≤ p.0) (λ p. k < p.0) ps (λ p h. omega (arith, less, h)) h

  pub ascends-drop : (n : ℕ) (ps : List (ℕ × V)) → Ascends ps → Ascends (drop n ps)
  ascends-drop zero ps h = h
  ascends-drop (suc n) [] h = h
  ascends-drop (suc n) (p ∷ ps) h = ascends-drop n ps h.1

  -- A key that the pair at its place hasn't isn't found.
  pub find-other : (key : ℕ) (p : ℕ × V) (ps : List (ℕ × V)) → Ascends (p ∷ ps) → key ≤ p.0 → ¬ (p.0 ≡ key) → find nat_cmp key (p ∷ ps) ≡ None
  find-other key p ps h least other = find-above key (p ∷ ps) (omega arith, each_above key p.0 ps (omega arith) h.0)

  -- the entries from a place on begin with the one at the place
  entries_at : (n : ℕ) (es : List (Entry V)) (e : Entry V) → n < length es → e ≡ get_or es n e → drop n es ≡ e ∷ drop (n + 1) es
  entries_at n es e within read = drop-cons es n e within ∙ rw (← read, add-one) refl

  -- the pairs from a place on begin with the one at the place
  pub at_place : (n : ℕ) (es : List (Entry V)) (e : Entry V) → n < length es → e ≡ get_or es n e → drop n (pairs_of es) ≡ pair_of e ∷ drop (n + 1) (pairs_of es)
  at_place n es e within read = drop-map pair_of n es ∙ ap (λ (xs : List (Entry V)). pairs_of xs) (entries_at n es e within read) ∙ ap (λ (ps : List (ℕ × V)). pair_of e ∷ ps) (sym (drop-map pair_of (n + 1) es))

  -- The pair at the place of a key that has the key is found.
  pub found-here : (key n : ℕ) (es : List (Entry V)) (e : Entry V) → IsPlaceOf (pairs_of es) key n → n < length es → e ≡ get_or es n e → e.key ≡ key → find nat_cmp key (pairs_of es) ≡ Some e.value.value
  found-here key n es e here within read same =
      let first : find nat_cmp key (pair_of e ∷ drop (n + 1) (pairs_of es)) ≡ Some e.value.value = grind (arith, nat_tests, same) in
      find-rest key n (pairs_of es) here.less ∙ rw (at_place n es e within read) first

  pub found-other : (key n : ℕ) (es : List (Entry V)) (e : Entry V) → Ascends (pairs_of es) → IsPlaceOf (pairs_of es) key n → n < length es → e ≡ get_or es n e → ¬ (e.key ≡ key) → find nat_cmp key (pairs_of es) ≡ None
  found-other key n es e up here within read other =
      let here_is = at_place n es e within read in
      let least : key ≤ e.key = (rw here_is at here.rest).0 in
      let above = ascends-drop n (pairs_of es) up in
      find-rest key n (pairs_of es) here.less ∙ rw here_is (find-other key (pair_of e) (drop (n + 1) (pairs_of es)) (rw here_is at above) least other)

  pub nothing_left : (n : ℕ) (es : List (Entry V)) → length es ≤ n → drop n (pairs_of es) ≡ []
  nothing_left zero [] past = refl
  nothing_left (suc n) [] past = refl
  nothing_left zero (e ∷ es) past = absurd (omega arith)
  nothing_left (suc n) (e ∷ es) past = nothing_left n es (omega arith)

  pub found-nothing : (key n : ℕ) (es : List (Entry V)) → IsPlaceOf (pairs_of es) key n → length es ≤ n → find nat_cmp key (pairs_of es) ≡ None
  found-nothing key n es here past = find-rest key n (pairs_of es) here.less ∙ rw (nothing_left n es past) refl

  each_key_at : (m : ℕ) (es : List (Entry V)) (j : ℕ) (d : Entry V) → j < length es → Each (λ p. m ≤ p.0) (pairs_of es) → m ≤ (get_or es j d).key
  each_key_at m [] j d within h = absurd (omega arith)
  each_key_at m (e ∷ es) zero d within h = h.0
  each_key_at m (e ∷ es) (suc j) d within h = each_key_at m es j d (omega arith) h.1

  -- Keys that ascend don't fall.
  pub rises : (es : List (Entry V)) → Ascends (pairs_of es) → IsNonDecreasingBy (λ e. e.key) es
  rises [] h i j d low within = absurd (omega arith)
  rises (e ∷ es) h zero zero d low within = omega arith
  rises (e ∷ es) h zero (suc j) d low within = each_key_at e.key es j d (omega arith) h.0
  rises (e ∷ es) h (suc i) zero d low within = absurd (omega arith)
  rises (e ∷ es) h (suc i) (suc j) d low within = rises es h.1 i j d (omega arith) (omega arith)

  pub less_before : (key : ℕ) (es : List (Entry V)) (n : ℕ) → AllWithin (λ e. nat_lt e.key key ≡ true) es 0 n → n ≤ length es → Each (λ p. p.0 < key) (take n (pairs_of es))
  less_before key es zero h within = tt
  less_before key [] (suc n) h within = tt
  less_before key (e ∷ es) (suc n) h within = (grind (arith, nat_tests, h 0 e (omega arith) (omega arith)), less_before key es n (λ k d low high. h (suc k) d (omega arith) (omega arith)) (omega arith))

  pub others_after : (key : ℕ) (es : List (Entry V)) (n : ℕ) → AllWithin (λ e. nat_lt e.key key ≡ false) es n (length es) → Each (λ p. key ≤ p.0) (drop n (pairs_of es))
  others_after key [] zero h = tt
  others_after key [] (suc n) h = tt
  others_after key (e ∷ es) zero h = (grind (arith, nat_tests, h 0 e (omega arith) (omega arith)), others_after key es zero (λ k d low high. h (suc k) d (omega arith) (omega arith)))
  others_after key (e ∷ es) (suc n) h = others_after key es n (λ k d low high. h (suc k) d (omega arith) (omega arith))

  less_all : (es : List (Entry V)) (e : Entry V) (n key : ℕ) → Ascends (pairs_of es) → n + 1 ≡ length es → Some e ≡ slice_get es n → e.key < key → Each (λ p. p.0 < key) (pairs_of es)
  less_all [] e n key up long last less = tt
  less_all (x ∷ []) e zero key up long last less = (rw (← same_Some e x last) less, tt)
  less_all (x ∷ []) e (suc n) key up long last less = absurd (omega (arith, long))
  less_all (x ∷ y ∷ es) e zero key up long last less = absurd (omega (arith, long))
  less_all (x ∷ y ∷ es) e (suc n) key up long last less =
      let rest : Each (λ p. p.0 < key) (pairs_of (y ∷ es)) = less_all (y ∷ es) e n key up.1 (omega (arith, long)) last less in
      let first : x.key ≤ y.key = up.0.0 in
      let next : y.key < key = rest.0 in
      (omega (arith, first, next), rest)

  -- Where the last key is less, each is.
  pub last_less : (es : List (Entry V)) (e : Entry V) (key : ℕ) → Ascends (pairs_of es) → Some e ≡ slice_get es (length es - 1) → nat_lt e.key key ≡ true → Each (λ p. p.0 < key) (pairs_of es)
  last_less [] e key up last less = tt
  last_less (x ∷ es) e key up last less = less_all (x ∷ es) e (length (x ∷ es) - 1) key up (omega arith) last (grind (arith, nat_tests, less))

  less_taken : (es : List (Entry V)) (n key : ℕ) → Each (λ p. p.0 < key) (pairs_of es) → Each (λ p. p.0 < key) (take n (pairs_of es))
  less_taken es zero key h = tt
  less_taken [] (suc n) key h = tt
  less_taken (e ∷ es) (suc n) key h = (h.0, less_taken es n key h.1)

  -- Where each key is less, the place is the end.
  pub place_behind : (es : List (Entry V)) (n key : ℕ) → n ≡ length es → Each (λ p. p.0 < key) (pairs_of es) → IsPlaceOf (pairs_of es) key n
  place_behind es n key end h = record { less = less_taken es n key h; rest = rw (nothing_left n es (omega (arith, end))) tt }
