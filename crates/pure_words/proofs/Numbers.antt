-- How great a number of some digits may be.
use Rattle.std.proofs.Common.{◌≡◌, ◌∙◌, ap, add-one, ℕ, ◌+◌, ◌*◌, ◌^◌, ◌<◌, ◌≤◌, arith, List, length, get_or, false, refl, None}
use Rattle.std.proofs.lemmas.List.Folds.{list_all_at}
use Rattle.pure_grammar.specs.Tokens.Bytes.{is_digit}
use Rattle.pure_words.specs.Values.{number_of}
use Rattle.std.proofs.Math.Nat.{pow-suc, pow-le-pow_right}

-- one more digit
pub one_more : (value digit i : ℕ) → value < 10 ^ i → digit < 10 → value * 10 + digit < 10 ^ (i + 1)
one_more value digit i below low =
    let power : 10 ^ (i + 1) ≡ 10 ^ i * 10 = ap (λ n. 10 ^ n) (add-one i) ∙ pow-suc 10 i in
    rw power (omega (arith, below, low))

-- eight digits
pub eight : (value i : ℕ) → value < 10 ^ i → i ≤ 8 → value < 100000000
eight value i below few =
    let power : 10 ^ i ≤ 10 ^ 8 = pow-le-pow_right (omega arith) few in
    omega (arith, below, power)

-- a byte that isn't a digit
pub not_number : (text : List ℕ) (i : ℕ) → i < length text → is_digit (get_or text i 0) ≡ false → None ≡ number_of text
not_number text i within other = rw (list_all_at is_digit text i 0 within other) refl
