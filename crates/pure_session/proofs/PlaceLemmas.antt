-- The places of texts among others that ascend.
use Rattle.std.proofs.Common.{◌≡◌, ◌⊎◌, inl, inr, ℕ, zero, suc, ◌<◌, ◌≤◌, Bool, true, false, List, [], ◌∷◌, length, get_or, refl, sym, ◌∙◌, ap, subst, arith, Ordering}
use Rattle.std.specs.declared.cmp.Ordering.TheVariants.{Less, Equal, Greater}
use Rattle.std.specs.List.{AllByRecursion}
use Rattle.std.specs.List.Sorted.{IsStrictlySortedBy, IsNonDecreasingBy, IsPartitionPoint}
use Rattle.std.specs.Ordering.{is_eq, ordering_index}
use Rattle.std.specs.Cmp.Lexicographic.{same_text, nat_list_cmp_total, nat_list_eq_equiv, texts_ties}
use Rattle.std.proofs.lemmas.Map.Keys.{sorted_head, sorted_tail}
use Rattle.std.proofs.lemmas.Bool.{cases_lt}
use Rattle.pure_text.specs.Lists.{IsIn}
use Rattle.pure_text.proofs.AscendingTexts.{byte_order, equal_texts}
use Rattle.pure_grammar.specs.Theories.Lexeme.{same}
use Rattle.pure_session.specs.Places.{place_in}

-- ---- the place of a text
pub place-head : (x : List ℕ) (xs : List (List ℕ)) (t : List ℕ) → same x t ≡ true → place_in (x ∷ xs) t ≡ zero
place-head x xs t h = rw h refl

pub place-tail : (x : List ℕ) (xs : List (List ℕ)) (t : List ℕ) → same x t ≡ false → place_in (x ∷ xs) t ≡ suc (place_in xs t)
place-tail x xs t h = rw h refl

pub same_or_apart : (x t : List ℕ) → ((same x t ≡ true) × (x ≡ t)) ⊎ ((same x t ≡ false) × (x ≡ t → ⊥))
same_or_apart x t = tell (same x t) refl
  where
    tell : (b : Bool) → b ≡ same x t → ((same x t ≡ true) × (x ≡ t)) ⊎ ((same x t ≡ false) × (x ≡ t → ⊥))
    tell true h = inl (sym h, same_text x t h)
    tell false h = inr (sym h, λ e. let alike : same x t ≡ true = ap (same x) (sym e) ∙ nat_list_eq_equiv.refl x in cc)

pub place-most : (texts : List (List ℕ)) (t : List ℕ) → place_in texts t ≤ length texts
place-most [] t = omega arith
place-most (x ∷ xs) t = elim (same_or_apart x t) [
  | inl w ↦ omega (arith, place-head x xs t w.0)
  | inr w ↦ omega (arith, place-tail x xs t w.0, place-most xs t)
]

pub place-below : (texts : List (List ℕ)) (t : List ℕ) → IsIn t texts → place_in texts t < length texts
place-below [] t m = absurd m
place-below (x ∷ xs) t m = elim (same_or_apart x t) [
  | inl w ↦ omega (arith, place-head x xs t w.0)
  | inr w ↦ elim m [ inl e ↦ absurd (w.1 (sym e)) | inr n ↦ omega (arith, place-tail x xs t w.0, place-below xs t n) ]
]

pub place-in : (texts : List (List ℕ)) (t : List ℕ) → place_in texts t < length texts → IsIn t texts
place-in [] t h = absurd (omega arith)
place-in (x ∷ xs) t h = elim (same_or_apart x t) [
  | inl w ↦ inl (sym w.1)
  | inr w ↦ inr (place-in xs t (omega (arith, place-tail x xs t w.0)))
]

pub place-at : (texts : List (List ℕ)) (t d : List ℕ) → place_in texts t < length texts → get_or texts (place_in texts t) d ≡ t
place-at [] t d h = absurd (omega arith)
place-at (x ∷ xs) t d h = elim (same_or_apart x t) [
  | inl w ↦ ap (λ k. get_or (x ∷ xs) k d) (place-head x xs t w.0) ∙ w.1
  | inr w ↦ ap (λ k. get_or (x ∷ xs) k d) (place-tail x xs t w.0) ∙ place-at xs t d (omega (arith, place-tail x xs t w.0))
]

-- two texts at one place are one
pub place-same : (texts : List (List ℕ)) (t u : List ℕ) → place_in texts t ≡ place_in texts u → place_in texts t < length texts → t ≡ u
place-same texts t u e h = sym (place-at texts t [] h) ∙ ap (λ k. get_or texts k []) e ∙ place-at texts u [] (subst (λ k. k < length texts) e h)

-- a text stands at its place, or it isn't among the texts
pub place-or_not : (texts : List (List ℕ)) (t : List ℕ) → (place_in texts t < length texts) ⊎ ((place_in texts t ≡ length texts) × ¬ IsIn t texts)
place-or_not texts t = elim (cases_lt (place_in texts t) (length texts)) [
  | inl less ↦ inl less
  | inr past ↦ inr (omega (arith, place-most texts t), λ m. let less = place-below texts t m in absurd (omega arith))
]

-- ---- what a search says
below-at : (x : List ℕ) (xs : List (List ℕ)) (k : ℕ) (d : List ℕ) → AllByRecursion (λ y. byte_order x y ≡ Less) xs → k < length xs → byte_order x (get_or xs k d) ≡ Less
below-at x [] k d below h = absurd (omega arith)
below-at x (y ∷ ys) zero d below h = below.0
below-at x (y ∷ ys) (suc k) d below h = below-at x ys k d below.1 (omega arith)

pub pairs_ascend : (xs : List (List ℕ)) (i j : ℕ) (d : List ℕ) → IsStrictlySortedBy byte_order xs → i < j → j < length xs → byte_order (get_or xs i d) (get_or xs j d) ≡ Less
pairs_ascend [] i j d sorted less h = absurd (omega arith)
pairs_ascend (x ∷ xs) i zero d sorted less h = absurd (omega arith)
pairs_ascend (x ∷ xs) zero (suc j) d sorted less h = below-at x xs j d (sorted_head byte_order x xs sorted) (omega arith)
pairs_ascend (x ∷ xs) (suc i) (suc j) d sorted less h = pairs_ascend xs i j d (sorted_tail byte_order x xs sorted) (omega arith) (omega arith)

pub place-hit : (texts : List (List ℕ)) (t : List ℕ) (k : ℕ) → IsStrictlySortedBy byte_order texts → k < length texts → ((d : List ℕ) → byte_order (get_or texts k d) t ≡ Equal) → k ≡ place_in texts t
place-hit [] t k sorted h found = absurd (omega arith)
place-hit (x ∷ xs) t zero sorted h found = sym (place-head x xs t (texts_ties x t ∙ ap is_eq (found x)))
place-hit (x ∷ xs) t (suc k) sorted h found =
    let there : get_or xs k x ≡ t = equal_texts (get_or xs k x) t (found x) in
    let less : byte_order x t ≡ Less = subst (λ u. byte_order x u ≡ Less) there (below-at x xs k x (sorted_head byte_order x xs sorted) (omega arith)) in
    ap suc (place-hit xs t k (sorted_tail byte_order x xs sorted) (omega arith) found) ∙ sym (place-tail x xs t (texts_ties x t ∙ ap is_eq less))

place-miss : (texts : List (List ℕ)) (t : List ℕ) → ((k : ℕ) (d : List ℕ) → k < length texts → is_eq (byte_order (get_or texts k d) t) ≡ false) → length texts ≡ place_in texts t
place-miss [] t no_one = refl
place-miss (x ∷ xs) t no_one =
    ap suc (place-miss xs t (λ k d h. no_one (suc k) d (omega arith))) ∙ sym (place-tail x xs t (texts_ties x t ∙ no_one zero x (omega arith)))

at_most_last : (o : Ordering) → ordering_index o ≤ ordering_index Greater
at_most_last Less = omega arith
at_most_last Equal = omega arith
at_most_last Greater = omega arith

index_rises : (a b t : List ℕ) → byte_order a b ≡ Less → (o : Ordering) → byte_order b t ≡ o → ordering_index (byte_order a t) ≤ ordering_index (byte_order b t)
index_rises a b t less Less e = let before : byte_order a t ≡ Less = nat_list_cmp_total.trans a b t less e in rw (before, e) (omega arith)
index_rises a b t less Equal e = let before : byte_order a t ≡ Less = subst (λ u. byte_order a u ≡ Less) (equal_texts b t e) less in rw (before, e) (omega arith)
index_rises a b t less Greater e = rw e (at_most_last (byte_order a t))

same_place : (xs : List (List ℕ)) (t : List ℕ) (i j : ℕ) (d : List ℕ) → i ≡ j → ordering_index (byte_order (get_or xs i d) t) ≤ ordering_index (byte_order (get_or xs j d) t)
same_place xs t i j d e = rw e (omega arith)

before_or_at : (i j : ℕ) → i ≤ j → (i < j) ⊎ (i ≡ j)
before_or_at i j h = grind arith

pub orders_rise : (texts : List (List ℕ)) (t : List ℕ) → IsStrictlySortedBy byte_order texts → IsNonDecreasingBy (λ y. ordering_index (byte_order y t)) texts
orders_rise texts t sorted i j d le within = elim (before_or_at i j le) [
  | inl less ↦ index_rises (get_or texts i d) (get_or texts j d) t (pairs_ascend texts i j d sorted less within) (byte_order (get_or texts j d) t) refl
  | inr e ↦ same_place texts t i j d e
]

pub place-missed : (texts : List (List ℕ)) (t : List ℕ) (i : ℕ) → IsStrictlySortedBy byte_order texts
    → (IsNonDecreasingBy (λ y. ordering_index (byte_order y t)) texts → IsPartitionPoint (λ y. byte_order y t ≡ Less) (λ y. byte_order y t ≡ Greater) texts i)
    → length texts ≡ place_in texts t
place-missed texts t i sorted apart =
    let both = apart (orders_rise texts t sorted) in
    place-miss texts t (λ k d h. elim (cases_lt k i) [
      | inl before ↦ ap is_eq (both.0 k d (omega arith) before)
      | inr behind ↦ ap is_eq (both.1 k d behind h)
    ])
