-- A row of bits that is widened.
use Rattle.std.proofs.Common.{◌≡◌, ◌↔◌, ◌/◌, ◌%◌, ℕ, zero, suc, List, [], ◌∷◌, ◌++◌, refl, sym, subst, get_or}
use Rattle.std.specs.Int.{bit_at}
use Rattle.pure_order_tables.specs.Rows.{Holds}

word-same : (words : List ℕ) (i : ℕ) → get_or (words ++ 0 ∷ []) i 0 ≡ get_or words i 0
word-same [] zero = refl
word-same [] (suc i) = refl
word-same (w ∷ ws) zero = refl
word-same (w ∷ ws) (suc i) = word-same ws i

-- With a word more, of no bits, it holds the same.
pub wider : (words : List ℕ) (other : ℕ) → Holds (words ++ 0 ∷ []) other ↔ Holds words other
wider words other = (
  λ h. record { bit = subst (λ w. bit_at w (other % 64) ≡ 1) (word-same words (other / 64)) h.bit },
  λ h. record { bit = subst (λ w. bit_at w (other % 64) ≡ 1) (sym (word-same words (other / 64))) h.bit },
)
