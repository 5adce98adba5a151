-- What the calls of a machine answer.
use Rattle.std.specs.Prelude.{◌≡◌, ℕ, ◌+◌, map, count_by, Bool, true, false, Option, Some, None, if◌then◌else◌}
use Rattle.pure_machine.specs.State.{State, Promise, Marks, TakeTheory, TakeProof, is_theory_cancelled}
use Rattle.pure_machine.specs.Step.{IsNextTheory, NoTheoryReady, IsNextPromise, IsIdle, IsFinished, after}
use Rattle.pure_machine.specs.declared.answers.Task as task
use Rattle.pure_machine.specs.declared.answers.Task.TheVariants as task_code
use Rattle.pure_machine.specs.declared.answers.Delivered as delivered
use Rattle.pure_machine.specs.declared.answers.Delivered.TheVariants as delivered_code
use Rattle.pure_machine.specs.declared.answers.Polled as polled
use Rattle.pure_machine.specs.declared.answers.Polled.TheVariants as polled_code

-- What is taken: the first ready theory, with the values of its parents; where no theory is ready the first ready promise, with its goal; and else a reading of the state, which stays.
abbrev pub Takes : {G C O : Type 0} → (old new : State G C O) → task.Task G C → Type 0
Takes old new (task_code.Theory index parents) = (old.stopped ≡ false) × IsNextTheory old index (map (λ p. p.value) parents.items) × (new ≡ after old (TakeTheory index))
Takes old new (task_code.Proof number goal) = (old.stopped ≡ false) × NoTheoryReady old × ((p : _) × IsNextPromise old number p × (goal.value ≡ p.goal)) × (new ≡ after old (TakeProof number))
Takes old new task_code.Idle = IsIdle old × (new ≡ old)
Takes old new task_code.Finished = IsFinished old × (new ≡ old)
Takes old new task_code.Stopped = (old.stopped ≡ true) × (new ≡ old)

-- what is answered to a delivery, where the promise was cancelled and where it wasn't
abbrev pub delivered_as : (cancelled : Bool) → delivered.Delivered
delivered_as true = delivered_code.Cancelled
delivered_as false = delivered_code.Kept

-- what a poll reads, by whether the work was stopped and whether the promise's group or the one above is cancelled
abbrev pub polled_as : (stopped cancelled : Bool) → polled.Polled
polled_as true cancelled = polled_code.Stopped
polled_as false true = polled_code.Cancelled
polled_as false false = polled_code.Go

-- whether the promise of this number is in a cancelled group
abbrev pub is_in_cancelled : {G C O : Type 0} → State G C O → Option (Promise G O) → Bool
is_in_cancelled s None = false
is_in_cancelled s (Some p) = is_theory_cancelled s.cancelled p.theory

-- how many groups are cancelled
abbrev pub count_cancelled : Marks → ℕ
count_cancelled m = count_by (λ mark. mark) m.theories + (if m.session then 1 else 0)
