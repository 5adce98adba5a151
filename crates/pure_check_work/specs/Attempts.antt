-- Proofs on their way that are counted.
use Rattle.std.specs.Prelude.{◌<◌, ◌≤◌, ℕ, List, Option, Some, None}
use Rattle.pure_table.specs.Declare.Notes.{Fork}
use Rattle.pure_table.specs.Method.Outcome.{IsProvable, IsOutcomeOf}
use Rattle.pure_table.specs.Method.Running.{Proves, steps_left}
use Rattle.pure_table.specs.Method.declared.outcome.Outcome.{Outcome}
use Rattle.pure_check_work.specs.declared.attempt.Attempt.{Attempt}

-- A proof can be run of the lemma, it is on its way, and no more steps are left than are counted.
pub record Attempts (texts : List (List ℕ)) (f : Fork) (attempt : Attempt) : Type 0 where
  pub provable : IsProvable texts f
  pub proves : Proves texts f attempt.proving
  pub within : steps_left f attempt.proving ≤ attempt.left

-- A step leaves the proof on its way with fewer steps counted, or gives what comes of the lemma's proof.
abbrev pub Steps : (texts : List (List ℕ)) → Fork → (old new : Attempt) → Option Outcome → Type 0
Steps texts f old new None = Attempts texts f new × (new.left < old.left)
Steps texts f old new (Some outcome) = IsOutcomeOf texts f outcome
