-- What a turn of a theory's commands, or of a proof, leads to.
use Rattle.std.specs.Prelude.{◌≡◌, ◌<◌, ℕ, ◌+◌, Option, Some, None}
use Rattle.pure_core.specs.declared.work.Turn.{Turn}
use Rattle.pure_core.specs.declared.work.Turn.TheVariants.{Declared, Forked, Closed}

-- Of a theory whose run has made n forks: a turn that declares leaves their number, one that forks a goal under a command makes the next fork, and one that closes gives a value that closes the theory after n forks. The first two leave fewer turns.
abbrev pub IsTurn : {G C R : Type 0} → (forks : ℕ → ℕ → ℕ → G → Type 0) → (closes : ℕ → ℕ → C → Type 0) → (runs : ℕ → ℕ → R → Type 0) → (left : R → ℕ) → (i n : ℕ) → (old new : R) → Turn G C → Type 0
IsTurn forks closes runs left i n old new Declared = runs i n new × (left new < left old)
IsTurn forks closes runs left i n old new (Forked c g) = forks i n c g × runs i (n + 1) new × (left new < left old)
IsTurn forks closes runs left i n old new (Closed c) = closes i n c

-- Of a theory whose run is as it was: what the old run has made the new one has, and as many turns are left.
abbrev pub IsRunKept : {R : Type 0} → (runs : ℕ → ℕ → R → Type 0) → (left : R → ℕ) → (old new : R) → Type 0
IsRunKept runs left old new = ((i n : ℕ) → runs i n old → runs i n new) × (left new ≡ left old)

-- Of a proof of a goal: a turn that gives no outcome goes on with fewer turns left, and one that gives an outcome gives one that the goal may have.
abbrev pub IsAdvance : {G O P : Type 0} → (proves : G → P → Type 0) → (may : G → O → Type 0) → (left : P → ℕ) → G → (old new : P) → Option O → Type 0
IsAdvance proves may left g old new None = proves g new × (left new < left old)
IsAdvance proves may left g old new (Some o) = may g o
