-- Texts that are other than those before them.
use Rattle.std.proofs.Common.{◌≡◌, ℕ, Bool, true, false, ◌||◌, ◌==◌, List, [], ◌∷◌, ◌++◌, refl, sym, ap, ◌∙◌, inl, inr, subst}
use Rattle.std.specs.List.{list_any}
use Rattle.std.specs.Cmp.Lexicographic.{same_text}
use Rattle.std.proofs.lemmas.Bool.{and_from, or_parts, or_left, both_ways, eq-eqb, false_from_ne_true}
use Rattle.std.proofs.lemmas.List.Folds.{list_any-append}
use Rattle.pure_text.specs.Lists.{IsIn, AreDistinct}
use Rattle.pure_grammar.specs.Theories.Lexeme.{same}

pub same-is : (w v : List ℕ) → same w v ≡ true → w ≡ v
same-is w v e = same_text w v (sym e)

same-self : (w : List ℕ) → same w w ≡ true
same-self [] = refl
same-self (b ∷ bs) = and_from (b == b) (same bs bs) (eq-eqb b b refl) (same-self bs)

-- each text is other than those before it, and those of `known`
abbrev pub AreNew : List (List ℕ) → List (List ℕ) → Type 0
AreNew known [] = Unit {0}
AreNew known (x ∷ xs) = (list_any (same x) known ≡ false) × AreNew (known ++ x ∷ []) xs

-- the texts are distinct, and none of them is one of `known`
record AreOther (known xs : List (List ℕ)) : Type 0 where
  distinct : AreDistinct xs
  other : (x : List ℕ) → IsIn x xs → list_any (same x) known ≡ false

or_first : (b : Bool) → (b || false) ≡ true → b ≡ true
or_first true p = refl
or_first false p = p

known-last : (known : List (List ℕ)) (x y : List ℕ) → list_any (same y) (known ++ x ∷ []) ≡ (list_any (same y) known || (same y x || false))
known-last known x y = list_any-append (same y) known (x ∷ [])

new-other : (known xs : List (List ℕ)) → AreNew known xs → AreOther known xs
new-other known [] new = record { distinct = tt; other = λ x m. absurd m }
new-other known (x ∷ xs) new =
    let more = new-other (known ++ x ∷ []) xs new.1 in
    let front : (y : List ℕ) → IsIn y xs → (list_any (same y) known || (same y x || false)) ≡ false = λ y m. sym (known-last known x y) ∙ more.other y m in
    let not_there : IsIn x xs → ⊥ =
    λ m. both_ways (same x x || false) (or_parts (list_any (same x) known) (same x x || false) (front x m)).1 (or_left (same x x) false (same-self x)) in
    record {
      distinct = (not_there, more.distinct);
      other = λ y m. elim m [
        | inl e ↦ ap (λ z. list_any (same z) known) e ∙ new.0
        | inr n ↦ (or_parts (list_any (same y) known) (same y x || false) (front y n)).0
      ];
    }

other-new : (known xs : List (List ℕ)) → AreDistinct xs → ((x : List ℕ) → IsIn x xs → list_any (same x) known ≡ false) → AreNew known xs
other-new known [] distinct other = tt
other-new known (x ∷ xs) distinct other =
    (other x (inl refl), other-new (known ++ x ∷ []) xs distinct.1 (λ y m. known-last known x y ∙ both_false (list_any (same y) known) (same y x || false) (other y (inr m)) (apart y m)))
  where
    both_false : (a b : Bool) → a ≡ false → b ≡ false → (a || b) ≡ false
    both_false a b p q = rw (p, q) refl

    apart : (y : List ℕ) → IsIn y xs → (same y x || false) ≡ false
    apart y m = false_from_ne_true (same y x || false) (λ h. distinct.0 (subst (λ z. IsIn z xs) (same-is y x (or_first (same y x) h)) m))

pub new-distinct : (xs : List (List ℕ)) → AreNew [] xs → AreDistinct xs
new-distinct xs new = let others = new-other [] xs new in others.distinct

pub distinct-new : (xs : List (List ℕ)) → AreDistinct xs → AreNew [] xs
distinct-new xs distinct = other-new [] xs distinct (λ x m. refl)
