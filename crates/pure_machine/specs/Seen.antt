-- How the parts of a machine are seen.
use Rattle.pure_machine.specs.State.{Progress, Waiting, Running, Closed, Standing, Ready, Taken, Settled, Cancelled, Event, TakeTheory, TakeProof, Fork, CloseTheory, Deliver, Stop}
use Rattle.pure_machine.specs.declared.parts.Progress as progress
use Rattle.pure_machine.specs.declared.parts.Progress.TheVariants as progress_code
use Rattle.pure_machine.specs.declared.parts.Standing as standing
use Rattle.pure_machine.specs.declared.parts.Standing.TheVariants as standing_code
use Rattle.pure_machine.specs.declared.parts.Event as event
use Rattle.pure_machine.specs.declared.parts.Event.TheVariants as event_code

-- what became of a theory
abbrev pub seen_progress : {C : Type 0} → progress.Progress C → Progress C
seen_progress progress_code.Waiting = Waiting
seen_progress (progress_code.Running forks) = Running forks
seen_progress (progress_code.Closed forks value) = Closed forks value.value

-- what became of a promise
abbrev pub seen_standing : {O : Type 0} → standing.Standing O → Standing O
seen_standing standing_code.Ready = Ready
seen_standing standing_code.Taken = Taken
seen_standing (standing_code.Settled outcome) = Settled outcome.value
seen_standing standing_code.Cancelled = Cancelled

-- what happened
abbrev pub seen_event : {G C O : Type 0} → event.Event G C O → Event G C O
seen_event (event_code.TakeTheory n) = TakeTheory n
seen_event (event_code.TakeProof n) = TakeProof n
seen_event (event_code.Fork i c goal) = Fork i c goal.value
seen_event (event_code.CloseTheory i value) = CloseTheory i value.value
seen_event (event_code.Deliver n outcome fault) = Deliver n outcome.value fault
seen_event event_code.Stop = Stop
