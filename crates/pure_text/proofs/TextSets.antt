-- Texts told apart, and a set of texts beside the list of them.
use Rattle.std.proofs.Common.{◌≡◌, ℕ, Bool, true, false, ◌||◌, cond, List, [], ◌∷◌, ◌++◌, refl, sym, ◌∙◌, ap, nat_eq}
use Rattle.std.specs.Cmp.Lexicographic.{pointwise, same_text, nat_list_eq_equiv, slice_cmp, texts_ties}
use Rattle.std.proofs.Math.Bool.{or-false}
use Rattle.std.proofs.lemmas.List.Folds.{list_any-append}
use Rattle.std.specs.BTreeSet.{BTreeSet, contains, Updates}
use Rattle.std.specs.Ordering.{nat_cmp, is_eq}
use Rattle.std.specs.List.{list_any}

-- two texts that aren't equal differ
pub differs : (a b : List ℕ) (x : Bool) → x ≡ pointwise nat_eq a b → (a ≡ b → ⊥) → x ≡ false
differs a b true h apart = absurd (apart (same_text a b h))
differs a b false h apart = refl

-- Tests that agree on each text agree on some text of a list.
pub list_any-same : (p q : List ℕ → Bool) → ((x : List ℕ) → p x ≡ q x) → (xs : List (List ℕ)) → list_any p xs ≡ list_any q xs
list_any-same p q h [] = refl
list_any-same p q h (x ∷ xs) = rw (h x, list_any-same p q h xs) refl

cond_or : (a b : Bool) → cond a true b ≡ (b || a)
cond_or true true = refl
cond_or true false = refl
cond_or false true = refl
cond_or false false = refl

-- The set that has the texts of the list, and gets a text, has those of the list with this text behind.
pub contains-more : (old new : BTreeSet (List ℕ)) (texts : List (List ℕ)) (text key : List ℕ) → ((t : List ℕ) → contains (slice_cmp nat_cmp) old t ≡ list_any (pointwise nat_eq t) texts)
    → key ≡ text → Updates (slice_cmp nat_cmp) old new key true → (t : List ℕ) → contains (slice_cmp nat_cmp) new t ≡ list_any (pointwise nat_eq t) (texts ++ text ∷ [])
contains-more old new texts text key known key_is updates t =
    let step : contains (slice_cmp nat_cmp) new t ≡ cond (is_eq (slice_cmp nat_cmp key t)) true (contains (slice_cmp nat_cmp) old t) = updates.0 t in
    let at : is_eq (slice_cmp nat_cmp key t) ≡ pointwise nat_eq t text = sym (texts_ties key t) ∙ nat_list_eq_equiv.symm key t ∙ ap (pointwise nat_eq t) key_is in
    rw (list_any-append (pointwise nat_eq t) texts (text ∷ []), or-false (pointwise nat_eq t text))
    (step ∙ ap (λ b. cond b true (contains (slice_cmp nat_cmp) old t)) at ∙ ap (λ b. cond (pointwise nat_eq t text) true b) (known t) ∙ cond_or (pointwise nat_eq t text) (list_any (pointwise nat_eq t) texts))
