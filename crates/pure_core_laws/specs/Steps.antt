-- That closing and stopping are steps of a work.
use Rattle.std.specs.Prelude.{◌≡◌, ◌<◌, ℕ, Bool}
use Rattle.pure_machine.specs.State.{State, CloseTheory, Stop}
use Rattle.pure_machine.specs.Step.{Allows, Done, IsStep, after, stops}

-- A close that may happen is a step, and is answered nothing.
abbrev pub ClosesByAStep : {G C O : Type 0} → (forks : ℕ → ℕ → ℕ → G → Type 0) → (closes : ℕ → ℕ → C → Type 0) → (may : G → O → Type 0) → (is_fault : O → Bool) → Type 0
ClosesByAStep {G} {C} {O} forks closes may is_fault = (old new : State G C O) (i : ℕ) (c : C)
    → Allows forks closes may is_fault old (CloseTheory i c) → new ≡ after old (CloseTheory i c) → IsStep forks closes may is_fault old (CloseTheory i c) Done new

-- A stop of a work that was stopped fewer times than it has workers is a step, and is answered nothing.
abbrev pub StopsByAStep : {G C O : Type 0} → (forks : ℕ → ℕ → ℕ → G → Type 0) → (closes : ℕ → ℕ → C → Type 0) → (may : G → O → Type 0) → (is_fault : O → Bool) → Type 0
StopsByAStep {G} {C} {O} forks closes may is_fault = (old new : State G C O)
    → stops old.history < old.opening.workers → new ≡ after old Stop → IsStep forks closes may is_fault old Stop Done new
