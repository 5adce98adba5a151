-- Promises on which goals may rest stand before them.
use Rattle.std.specs.Prelude.{◌≡◌, ◌<◌, ℕ, List}
use Rattle.pure_text.specs.Lists.{IsIn}
use Rattle.pure_definitions.specs.Names.{Label}
use Rattle.pure_definitions.specs.Terms.Term.{Term}
use Rattle.pure_definitions.specs.Declarations.Decl.{PromiseDecl}
use Rattle.pure_graph.specs.Order.{Loaded}
use Rattle.pure_logic.specs.Content.{Content}
use Rattle.pure_table.specs.Declare.Notes.{Fork}
use Rattle.pure_table.specs.Method.Outcome.{IsOutcomeOf}
use Rattle.pure_table.specs.Method.declared.outcome.Outcome.{Outcome}
use Rattle.pure_table.specs.SessionLaws.Loaded.{IsLoadedSession}
use Rattle.pure_table.specs.TheoryRun.Outline.{Outline}
use Rattle.pure_machine.specs.State.{State, Promise}
use Rattle.pure_machine.specs.Step.{Stands}
use Rattle.pure_core.specs.Legal.{IsLegal}
use Rattle.pure_check_work.specs.Relations.{shape_of, ForksAfter, ClosesAfter, is_fault}

-- The promise declared with this label and statement is that of a lemma whose number is smaller.
abbrev pub StandsBefore : State Fork Outline Outcome → (number : ℕ) → Label → Term → Type 0
StandsBefore s number l A = (earlier : ℕ) × (p : Promise Fork Outcome) × Stands s earlier p × ((p.goal).label ≡ l) × ((p.goal).prop ≡ A) × (earlier < number)

-- In every state of every legal run of the session each promise of a goal's content is that of a lemma with a smaller number; so no lemma rests on itself by any path.
abbrev pub PromisesComeBefore : Type 0
PromisesComeBefore = (texts : List (List ℕ)) (theories : List Loaded) → IsLoadedSession texts theories → (s : State Fork Outline Outcome)
    → IsLegal (shape_of theories) (ForksAfter texts theories) (ClosesAfter texts theories) (IsOutcomeOf texts) is_fault s
    → (number : ℕ) (goal : Promise Fork Outcome) → Stands s number goal → (name : ℕ) (l : Label) (A : Term) → IsIn (PromiseDecl name l A) (goal.goal).content.declarations → StandsBefore s number l A
