-- Closing and stopping as steps.
use Rattle.std.proofs.Common.{ℕ, refl, Bool}
use Rattle.pure_core_laws.specs.Steps.{ClosesByAStep, StopsByAStep}

pub closes-step : {G C O : Type 0} (forks : ℕ → ℕ → ℕ → G → Type 0) (closes : ℕ → ℕ → C → Type 0) (may : G → O → Type 0) (is_fault : O → Bool) → ClosesByAStep forks closes may is_fault
closes-step forks closes may is_fault old new i c allowed same = record { allowed = allowed; answered = refl; state = same }

pub stops-step : {G C O : Type 0} (forks : ℕ → ℕ → ℕ → G → Type 0) (closes : ℕ → ℕ → C → Type 0) (may : G → O → Type 0) (is_fault : O → Bool) → StopsByAStep forks closes may is_fault
stops-step forks closes may is_fault old new fewer same = record { allowed = fewer; answered = refl; state = same }
