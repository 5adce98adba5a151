-- Ascending lists of texts, told by what is among them.
use Rattle.std.proofs.Common.{◌≡◌, ◌↔◌, ◌||◌, inl, inr, ℕ, Bool, true, false, List, [], ◌∷◌, refl, sym, ◌∙◌, ap}
use Rattle.std.specs.List.{list_any}
use Rattle.std.specs.List.Sorted.{IsStrictlySortedBy}
use Rattle.std.specs.Cmp.Lexicographic.{same_text, nat_list_eq_equiv}
use Rattle.pure_text.specs.Lists.{IsIn}
use Rattle.pure_text.proofs.AscendingTexts.{byte_order, ascending_once}
use Rattle.pure_grammar.specs.Theories.Lexeme.{same}

pub among-in : (t : List ℕ) (xs : List (List ℕ)) → IsIn t xs → list_any (same t) xs ≡ true
among-in t [] m = absurd m
among-in t (x ∷ xs) (inl e) = let alike : same t x ≡ true = ap (same t) (sym e) ∙ nat_list_eq_equiv.refl t in rw alike refl
among-in t (x ∷ xs) (inr m) = rw (among-in t xs m) (or_true (same t x))
  where
    or_true : (b : Bool) → (b || true) ≡ true
    or_true true = refl
    or_true false = refl

pub in-among : (t : List ℕ) (xs : List (List ℕ)) → list_any (same t) xs ≡ true → IsIn t xs
in-among t [] h = absurd (cc)
in-among t (x ∷ xs) h = by (same t x) refl (in-among t xs) h
  where
    by : (b : Bool) → same t x ≡ b → (list_any (same t) xs ≡ true → IsIn t xs) → (b || list_any (same t) xs) ≡ true → IsIn t (x ∷ xs)
    by true e later k = inl (same_text t x (sym e))
    by false e later k = inr (later k)

alike : (a b : Bool) → (a ≡ true → b ≡ true) → (b ≡ true → a ≡ true) → a ≡ b
alike true b there back = sym (there refl)
alike false true there back = back refl
alike false false there back = refl

-- two ascending lists of the same texts
pub ascending_same : (xs ys : List (List ℕ)) → IsStrictlySortedBy byte_order xs → IsStrictlySortedBy byte_order ys → ((t : List ℕ) → IsIn t xs ↔ IsIn t ys) → xs ≡ ys
ascending_same xs ys a b have = ascending_once xs ys a b (λ t.
    alike (list_any (same t) xs) (list_any (same t) ys) (λ h. among-in t ys ((have t).0 (in-among t xs h))) (λ h. among-in t xs ((have t).1 (in-among t ys h))))
