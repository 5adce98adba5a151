-- The calls of a core as steps of its work.
use Rattle.std.proofs.Common.{◌≡◌, ◌∙◌, ℕ, map, length, refl, ap, Bool, true, false, if◌then◌else◌, slice_get}
use Rattle.pure_machine.specs.State.{State, Fork, Deliver}
use Rattle.pure_machine.specs.Step.{Reply, GivesProof, Numbered, Kept, Dropped, Allows, IsStep, after, is_cancelled_promise}
use Rattle.pure_machine.specs.Calls.{Takes, delivered_as}
use Rattle.pure_machine.specs.declared.answers.Task as task
use Rattle.pure_machine.specs.declared.answers.Task.TheVariants as task_code
use Rattle.pure_machine.specs.declared.answers.Delivered as delivered
use Rattle.pure_core.specs.Replies.{IsTaking, reply_to}

pub takes-step : {G C O : Type 0} (forks : ℕ → ℕ → ℕ → G → Type 0) (closes : ℕ → ℕ → C → Type 0) (may : G → O → Type 0) (is_fault : O → Bool) (old new : State G C O) (t : task.Task G C) → Takes old new t → IsTaking forks closes may is_fault old new t
takes-step forks closes may is_fault old new (task_code.Theory index parents) h = record {
  allowed = (h.0, (map (λ p. p.value) parents.items, h.1));
  answered = (map (λ p. p.value) parents.items, h.1.0, refl);
  state = h.2;
}
takes-step forks closes may is_fault old new (task_code.Proof number goal) h = record {
  allowed = (h.0, h.1, (h.2.0, h.2.1));
  answered = (h.2.0, h.2.1.0, ap (GivesProof number) h.2.2);
  state = h.3;
}
takes-step forks closes may is_fault old new task_code.Idle h = h.1
takes-step forks closes may is_fault old new task_code.Finished h = h.1
takes-step forks closes may is_fault old new task_code.Stopped h = h.1

reply-by : {G C : Type 0} (b : Bool) → ◌≡◌ {A = Reply G C} (reply_to (delivered_as b)) (if b then Dropped else Kept)
reply-by true = refl
reply-by false = refl

pub delivers-step : {G C O : Type 0} (forks : ℕ → ℕ → ℕ → G → Type 0) (closes : ℕ → ℕ → C → Type 0) (may : G → O → Type 0) (is_fault : O → Bool) (old new : State G C O) (n : ℕ) (o : O) (fault : Bool) (d : delivered.Delivered)
    → Allows forks closes may is_fault old (Deliver n o fault) → d ≡ delivered_as (is_cancelled_promise (slice_get old.promises n)) → new ≡ after old (Deliver n o fault) → IsStep forks closes may is_fault old (Deliver n o fault) (reply_to d) new
delivers-step forks closes may is_fault old new n o fault d allowed answer same = record {
  allowed = allowed;
  answered = ap reply_to answer ∙ reply-by (is_cancelled_promise (slice_get old.promises n));
  state = same;
}

pub forks-step : {G C O : Type 0} (forks : ℕ → ℕ → ℕ → G → Type 0) (closes : ℕ → ℕ → C → Type 0) (may : G → O → Type 0) (is_fault : O → Bool) (old new : State G C O) (i c : ℕ) (g : G) (n : ℕ)
    → Allows forks closes may is_fault old (Fork i c g) → n ≡ length old.promises → new ≡ after old (Fork i c g) → IsStep forks closes may is_fault old (Fork i c g) (Numbered n) new
forks-step forks closes may is_fault old new i c g n allowed number same = record { allowed = allowed; answered = ap Numbered number; state = same }
