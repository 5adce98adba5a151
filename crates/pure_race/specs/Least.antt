-- The least attempt that wins.
use Rattle.std.specs.Prelude.{◌≡◌, ◌<◌, ℕ, Bool, true, false, Option, None, Some}

-- each attempt below the number loses
abbrev pub AllLose : (Wins : ℕ → Bool → Type 0) → ℕ → Type 0
AllLose Wins count = (n : ℕ) → n < count → Wins n false

-- of the attempts below count: the least that wins, or none where none does
abbrev pub IsLeastWin : (Wins : ℕ → Bool → Type 0) → ℕ → Option ℕ → Type 0
IsLeastWin Wins count None = AllLose Wins count
IsLeastWin Wins count (Some n) = (n < count) × Wins n true × AllLose Wins n

-- Where no attempt both wins and loses, the answer is one.
abbrev pub LeastWinOnce : (Wins : ℕ → Bool → Type 0) → Type 0
LeastWinOnce Wins = ((n : ℕ) → Wins n true → ¬ Wins n false) → (count : ℕ) (a b : Option ℕ) → IsLeastWin Wins count a → IsLeastWin Wins count b → a ≡ b
