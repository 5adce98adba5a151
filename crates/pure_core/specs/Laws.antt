-- What legal runs keep, and which calls are steps, of works with these meanings (Wenzel, Parallel Proof Checking in Isabelle/Isar, 2009).
use Rattle.std.specs.Prelude.{◌≡◌, ℕ, List, Bool, length, slice_get}
use Rattle.pure_machine.specs.State.{State, Event, Fork, Deliver}
use Rattle.pure_machine.specs.Step.{Allows, Numbered, IsStep, after, is_cancelled_promise}
use Rattle.pure_machine.specs.Calls.{delivered_as}
use Rattle.pure_machine.specs.declared.answers.Delivered as delivered
use Rattle.pure_core.specs.Legal.{IsLegal}
use Rattle.pure_core.specs.Replies.{reply_to}

-- An event that may happen behind a legal run makes a legal run.
abbrev pub LegalGrows : {G C O : Type 0} → (shape : List (List ℕ)) → (forks : ℕ → ℕ → ℕ → G → Type 0) → (closes : ℕ → ℕ → C → Type 0) → (may : G → O → Type 0) → (is_fault : O → Bool) → Type 0
LegalGrows {G} {C} {O} shape forks closes may is_fault = (s : State G C O) (e : Event G C O)
    → IsLegal shape forks closes may is_fault s → Allows forks closes may is_fault s e → IsLegal shape forks closes may is_fault (after s e)

-- A fork that may happen, with the number that is answered, is a step.
abbrev pub ForksByAStep : {G C O : Type 0} → (forks : ℕ → ℕ → ℕ → G → Type 0) → (closes : ℕ → ℕ → C → Type 0) → (may : G → O → Type 0) → (is_fault : O → Bool) → Type 0
ForksByAStep {G} {C} {O} forks closes may is_fault = (old new : State G C O) (i c : ℕ) (g : G) (n : ℕ)
    → Allows forks closes may is_fault old (Fork i c g) → n ≡ length old.promises → new ≡ after old (Fork i c g)
    → IsStep forks closes may is_fault old (Fork i c g) (Numbered n) new

-- A delivery that may happen, with its answer, is a step.
abbrev pub DeliversByAStep : {G C O : Type 0} → (forks : ℕ → ℕ → ℕ → G → Type 0) → (closes : ℕ → ℕ → C → Type 0) → (may : G → O → Type 0) → (is_fault : O → Bool) → Type 0
DeliversByAStep {G} {C} {O} forks closes may is_fault = (old new : State G C O) (n : ℕ) (o : O) (fault : Bool) (d : delivered.Delivered)
    → Allows forks closes may is_fault old (Deliver n o fault) → d ≡ delivered_as (is_cancelled_promise (slice_get old.promises n)) → new ≡ after old (Deliver n o fault)
    → IsStep forks closes may is_fault old (Deliver n o fault) (reply_to d) new
