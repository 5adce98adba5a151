-- The parts of the files before a file, and its own.
use Rattle.std.proofs.Common.{◌≡◌, ◌<◌, ◌≤◌, ℕ, true, false, refl, arith, nat_le, Option, Some, None, MatchOption}
use Rattle.std.proofs.lemmas.Bool.Decides.{nat_tests}
use Rattle.pure_graph.specs.Outcome.{Outcome, Refused}
use Rattle.pure_graph.specs.Reading.{fits, counted}
use Rattle.pure_graph.specs.declared.outcome.Reason.TheVariants.{TooLarge}

past : (m n : ℕ) → m < n → nat_le n m ≡ false
past m n h = grind (arith, nat_tests)

within : (m n : ℕ) → n ≤ m → nat_le n m ≡ true
within m n h = grind (arith, nat_tests)

-- there is room for so many, or there isn't
pub room-or-not : (found : Option ℕ) (most bound sum : ℕ) → most ≤ bound → MatchOption found (most < sum) (λ s. (s ≡ sum) × (s ≤ most))
    → MatchOption found (nat_le sum most ≡ false) (λ s. (nat_le sum most ≡ true) × (s ≡ sum) × (s ≤ bound))
room-or-not None most bound sum under h = past most sum h
room-or-not (Some s) most bound sum under (is, few) = (within most sum (omega (arith, is, few)), is, omega (arith, under, few))

pub counted-past : (before : ℕ) (outcome : Outcome) → fits before outcome ≡ false → Refused TooLarge ≡ counted before outcome
counted-past before outcome h = rw h refl

pub counted-within : (before : ℕ) (outcome : Outcome) → fits before outcome ≡ true → outcome ≡ counted before outcome
counted-within before outcome h = rw h refl
