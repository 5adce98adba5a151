-- Keywords of one length.
use Rattle.std.proofs.Common.{◌≡◌, ℕ, zero, suc, Bool, true, false, ◌&&◌, ◌||◌, List, [], ◌∷◌, length, nat_eq, refl, ap, arith}
use Rattle.std.specs.Prelude.{if◌then◌else◌}
use Rattle.std.specs.Cmp.Lexicographic.{pointwise}
use Rattle.std.specs.List.{list_any}

-- whether the word has this length, and the words that do
abbrev pub has_length : ℕ → List ℕ → Bool
has_length zero [] = true
has_length zero (x ∷ xs) = false
has_length (suc n) [] = false
has_length (suc n) (x ∷ xs) = has_length n xs

abbrev pub of_length : ℕ → List (List ℕ) → List (List ℕ)
of_length n [] = []
of_length n (w ∷ ws) = if has_length n w then w ∷ of_length n ws else of_length n ws

and-false : (c d : Bool) → d ≡ false → (c && d) ≡ false
and-false true d e = e
and-false false d e = refl

-- Texts of different lengths aren't the same.
other-length : (n : ℕ) (w bs : List ℕ) → length bs ≡ n → has_length n w ≡ false → pointwise nat_eq w bs ≡ false
other-length zero [] bs e d = absurd (let no : true ≡ false = d in cc)
other-length zero (x ∷ w) [] e d = refl
other-length zero (x ∷ w) (b ∷ bs) e d = absurd (omega arith)
other-length (suc n) [] [] e d = absurd (omega arith)
other-length (suc n) [] (b ∷ bs) e d = refl
other-length (suc n) (x ∷ w) [] e d = refl
other-length (suc n) (x ∷ w) (b ∷ bs) e d = and-false (nat_eq x b) (pointwise nat_eq w bs) (other-length n w bs (omega arith) d)

-- So only words of its length need be compared with a text.
pub same-length : (ws : List (List ℕ)) (bs : List ℕ) (n : ℕ) → length bs ≡ n → list_any (λ w. pointwise nat_eq w bs) (of_length n ws) ≡ list_any (λ w. pointwise nat_eq w bs) ws
same-length [] bs n e = refl
same-length (w ∷ ws) bs n e = by (has_length n w) refl (same-length ws bs n e)
  where
    by : (c : Bool) → has_length n w ≡ c → list_any (λ w. pointwise nat_eq w bs) (of_length n ws) ≡ list_any (λ w. pointwise nat_eq w bs) ws
        → list_any (λ w. pointwise nat_eq w bs) (if c then w ∷ of_length n ws else of_length n ws) ≡ (pointwise nat_eq w bs || list_any (λ w. pointwise nat_eq w bs) ws)
    by true d rest = ap (λ (x : Bool). pointwise nat_eq w bs || x) rest
    by false d rest = rw (other-length n w bs e d) rest
