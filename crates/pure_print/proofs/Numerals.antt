-- Numerals and numbers above a table.
use Rattle.std.proofs.Common.{◌≡◌, ℕ, zero, suc, ◌+◌, ◌/◌, ◌%◌, ◌^◌, ◌<◌, ◌≤◌, List, [], ◌∷◌, ◌++◌, length, arith}
use Rattle.std.specs.Prelude.{slice_get, Some, None}
use Rattle.std.specs.Fmt.{decimal}
use Rattle.std.proofs.lemmas.Fmt.{decimal_step, decimal_digit}
use Rattle.pure_text.proofs.Joins.{joined_2}

-- the numeral of what stands before the last digit, and the last digit
pub numeral-step : (n : ℕ) (old t1 t2 : List ℕ) → 10 ≤ n → n < 2 ^ 64 → t1 ≡ old ++ decimal (n / 10) → t2 ≡ t1 ++ (48 + n % 10) ∷ [] → t2 ≡ old ++ decimal n
numeral-step n old t1 t2 large small e1 e2 = rw (decimal_step n large small) (joined_2 old t1 t2 (decimal (n / 10)) ((48 + n % 10) ∷ []) e1 e2)

pub numeral-digit : (n : ℕ) (old t1 : List ℕ) → n < 10 → t1 ≡ old ++ (48 + n % 10) ∷ [] → t1 ≡ old ++ decimal n
numeral-digit n old t1 small e1 = let same : n % 10 ≡ n = omega arith in rw (decimal_digit n small, ← same) e1

pub none-past : {X : Type 0} (xs : List X) (n : ℕ) → slice_get xs n ≡ None → length xs ≤ n
none-past [] n e = omega arith
none-past (x ∷ xs) zero e = absurd (cc)
none-past (x ∷ xs) (suc n) e = let ih = none-past xs n e in omega arith

pub some-within : {X : Type 0} (xs : List X) (n : ℕ) (x : X) → slice_get xs n ≡ Some x → n < length xs
some-within [] n x e = cc
some-within (y ∷ xs) zero x e = omega arith
some-within (y ∷ xs) (suc n) x e = let ih = some-within xs n x e in omega arith
