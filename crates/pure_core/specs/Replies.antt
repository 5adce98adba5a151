-- The calls of a core as steps of its work: each changes the state by an event that may happen, and answers that event's reply.
use Rattle.std.specs.Prelude.{◌≡◌, ℕ, map, Bool}
use Rattle.pure_machine.specs.State.{State, TakeTheory, TakeProof}
use Rattle.pure_machine.specs.Step.{Reply, GivesTheory, GivesProof, Kept, Dropped, IsStep}
use Rattle.pure_machine.specs.declared.answers.Task as task
use Rattle.pure_machine.specs.declared.answers.Task.TheVariants as task_code
use Rattle.pure_machine.specs.declared.answers.Delivered as delivered
use Rattle.pure_machine.specs.declared.answers.Delivered.TheVariants as delivered_code

-- What is taken is a step, by which a theory or a proof begins to run; or a reading of the state, which stays.
abbrev pub IsTaking : {G C O : Type 0} → (forks : ℕ → ℕ → ℕ → G → Type 0) → (closes : ℕ → ℕ → C → Type 0) → (may : G → O → Type 0) → (is_fault : O → Bool) → (old new : State G C O) → task.Task G C → Type 0
IsTaking forks closes may is_fault old new (task_code.Theory index parents) = IsStep forks closes may is_fault old (TakeTheory index) (GivesTheory index (map (λ p. p.value) parents.items)) new
IsTaking forks closes may is_fault old new (task_code.Proof number goal) = IsStep forks closes may is_fault old (TakeProof number) (GivesProof number goal.value) new
IsTaking forks closes may is_fault old new _ = new ≡ old

-- the reply that an answer to a delivery is
abbrev pub reply_to : {G C : Type 0} → delivered.Delivered → Reply G C
reply_to delivered_code.Kept = Kept
reply_to delivered_code.Cancelled = Dropped
