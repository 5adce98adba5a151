-- Which command of which theory forked a promise.
use Rattle.std.specs.Prelude.{◌≡◌, ℕ, List}
use Rattle.pure_definitions.specs.Names.{Label}
use Rattle.pure_graph.specs.Order.{Loaded}
use Rattle.pure_table.specs.Declare.Notes.{Fork}
use Rattle.pure_table.specs.Method.Outcome.{IsOutcomeOf}
use Rattle.pure_table.specs.Method.declared.outcome.Outcome.{Outcome}
use Rattle.pure_table.specs.SessionLaws.Loaded.{IsLoadedSession}
use Rattle.pure_table.specs.TheoryRun.Outline.{Outline}
use Rattle.pure_machine.specs.State.{State, Promise}
use Rattle.pure_machine.specs.Step.{Stands}
use Rattle.pure_core.specs.Legal.{IsLegal}
use Rattle.pure_check_work.specs.Relations.{shape_of, ForksAfter, ClosesAfter, is_fault}

-- The promise is of the theory and of the command that this label has.
pub record IsOwnedBy (p : Promise Fork Outcome) (l : Label) : Type 0 where
  pub theory_is : p.theory ≡ l.theory
  pub command_is : p.command ≡ l.command

-- In every state of every legal run of the session each promise is of the theory and of the command that the label of its lemma has.
abbrev pub PromisesAreOwned : Type 0
PromisesAreOwned = (texts : List (List ℕ)) (theories : List Loaded) → IsLoadedSession texts theories → (s : State Fork Outline Outcome)
    → IsLegal (shape_of theories) (ForksAfter texts theories) (ClosesAfter texts theories) (IsOutcomeOf texts) is_fault s
    → (number : ℕ) (p : Promise Fork Outcome) → Stands s number p → IsOwnedBy p (p.goal).label
