-- Numbers and their digits.
use Rattle.std.proofs.Common.{◌≡◌, ℕ, zero, suc, ◌+◌, ◌-◌, ◌*◌, ◌%◌, ◌^◌, ◌<◌, ◌≤◌, true, ◌&&◌, List, [], ◌∷◌, ◌++◌, length, refl, ◌∙◌, arith}
use Rattle.std.specs.Prelude.{nat_le}
use Rattle.std.specs.List.{list_all}
use Rattle.std.specs.Fmt.{decimal}
use Rattle.std.proofs.lemmas.Fmt.{decimal_by_steps}
use Rattle.std.proofs.lemmas.Bool.{and_parts}
use Rattle.std.proofs.lemmas.Bool.Decides.{nat_tests}
use Rattle.pure_grammar.specs.Tokens.Bytes.{is_digit}
use Rattle.pure_grammar.specs.Tokens.Token.{is_number}
use Rattle.pure_grammar.specs.Theories.Lexeme.{value_behind}

-- ---- the digits of a number have its value
value-last : (before : ℕ) (ds : List ℕ) (d : ℕ) → value_behind before (ds ++ d ∷ []) ≡ value_behind before ds * 10 + (d - 48)
value-last before [] d = refl
value-last before (x ∷ ds) d = value-last (before * 10 + (x - 48)) ds d

pub value-decimal : (n : ℕ) → n < 2 ^ 64 → value_behind 0 (decimal n) ≡ n
value-decimal = decimal_by_steps (λ n ds. value_behind 0 ds ≡ n)
    (λ n small. omega arith)
    (λ n ds large h. value-last 0 ds (48 + n % 10) ∙ rw h (omega arith))

-- ---- nine digits have a value below 10^9
abbrev tens : ℕ → ℕ → ℕ
tens zero m = m
tens (suc n) m = tens n (m * 10)

digit-value : (b : ℕ) → is_digit b ≡ true → b - 48 ≤ 9
unfolding is_digit
digit-value b h = grind (arith, nat_tests)

below : (n : ℕ) (bs : List ℕ) (before m : ℕ) → length bs ≤ n → list_all is_digit bs ≡ true → before < m → value_behind before bs < tens n m
below zero [] before m few digits h = h
below zero (b ∷ bs) before m few digits h = absurd (omega arith)
below (suc n) [] before m few digits h = below n [] before (m * 10) (omega arith) refl (omega arith)
below (suc n) (b ∷ bs) before m few digits h =
    let parts = and_parts (is_digit b) (list_all is_digit bs) digits in
    let small : b - 48 ≤ 9 = digit-value b parts.0 in
    below n bs (before * 10 + (b - 48)) (m * 10) (omega arith) parts.1 (omega arith)

short-number : (bs : List ℕ) → (nat_le 1 (length bs) && nat_le (length bs) 9) ≡ true → length bs ≤ 9
short-number bs h = grind (arith, nat_tests)

pub value-short : (bs : List ℕ) → is_number bs ≡ true → value_behind 0 bs < 1000000000
value-short bs h =
    let parts = and_parts (list_all is_digit bs) (nat_le 1 (length bs) && nat_le (length bs) 9) h in
    below 9 bs 0 1 (short-number bs parts.1) parts.0 (omega arith)
