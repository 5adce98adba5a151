use Rattle.std.proofs.Common.{arith, rules}
use Rattle.pure_lex.proofs.Runs.{digits}
use Rattle.pure_lex.proofs.bytes.digit_count.Goals as goal

pub returns-then-i-eq-MOST_DIGITS : goal.returns-then-i-eq-MOST_DIGITS
returns-then-i-eq-MOST_DIGITS c = digits _ _ (omega arith) (omega arith) c.loop-i.invariant.0 (λ few. absurd (omega arith))

pub returns-then-not-is_digit : goal.returns-then-not-is_digit
returns-then-not-is_digit c = digits _ _ (omega arith) (omega arith) c.loop-i.invariant.0 (λ _ _. search rules)
