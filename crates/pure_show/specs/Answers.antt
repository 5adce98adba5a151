-- What is shown of the lemma of a session that has some name.
use Rattle.std.specs.Prelude.{◌≡◌, ℕ, Bool, false, List, [], ◌∷◌, ◌++◌, Option, Some, None, codes}
use Rattle.pure_graph.specs.Order.{Loaded}
use Rattle.pure_definitions.specs.Names.{Label}
use Rattle.pure_places.specs.Parts.{Part, CommandParts, Parts, part_at}
use Rattle.pure_places.specs.Seen.{ArePlaces}
use Rattle.pure_resolve.specs.GoalSteps.State.{State}
use Rattle.pure_row_places.specs.Lines.{place_text}
use Rattle.pure_row_places.specs.Reasons.{step_place}
use Rattle.pure_theory_run.specs.Declare.Notes.{Fork, Note}
use Rattle.pure_theory_run.specs.Method.Course.{IsProofCourseIn}
use Rattle.pure_theory_run.specs.Method.Proof.{Ending}
use Rattle.pure_theory_run.specs.Named.{lemma_named}
use Rattle.pure_theory_run.specs.SessionMeaning.Statements.{forks_of, AreStatements}
use Rattle.pure_theory_run.specs.SessionMeaning.Verdicts.{IsTheoryAt}
use Rattle.pure_show.specs.Lines.{limit, course_text, room_left, is_clean}

abbrev pub no_command : CommandParts ℕ
no_command = record { haves = []; own = record { name = 0; steps = [] } }

-- the lemma or have with this label among the commands of its theory, which has parts for each
abbrev pub labelled_part : List (CommandParts ℕ) → Label → Part ℕ
labelled_part commands label = part_at commands label.command label.part no_command

-- The lemma or have is this part of this source: the label tells its theory, the command there, and the part of it.
pub record StandsIn (theories : List Loaded) (f : Fork) (source : List ℕ) (part : Part ℕ) : Type 0 where
  pub theory : Loaded
  pub is_at : IsTheoryAt theories f.label.theory theory
  pub source_is : source ≡ theory.source
  pub places : Parts ℕ
  pub are : ArePlaces source places
  pub part_is : part ≡ labelled_part places.commands f.label

-- the line and the column of the step with this number
abbrev pub place_of : (source : List ℕ) → Part ℕ → (number : ℕ) → List ℕ
place_of source part number = place_text source (step_place part number)

-- The text shows the course of the lemma's proof, with these places of its steps, and this says whether it is clean.
pub record IsCourseText (texts : List (List ℕ)) (f : Fork) (name : List ℕ) (place : ℕ → List ℕ) (text : List ℕ) (clean : Bool) : Type 0 where
  pub states : List State
  pub end : Ending
  pub course : IsProofCourseIn texts f.content f.lemma f.fixed f.script states end
  pub text_is : text ≡ course_text texts place name f.fixed f.script states end
  pub clean_is : clean ≡ is_clean (room_left texts (Some limit) states) end

-- There is no such lemma; or the course of its proof is shown.
abbrev pub IsShown : (texts : List (List ℕ)) → (theories : List Loaded) → (name : List ℕ) → Option Fork → (text : List ℕ) → (clean : Bool) → Type 0
IsShown texts theories name None text clean = (text ≡ codes "no lemma" ++ 10 ∷ []) × (clean ≡ false)
IsShown texts theories name (Some f) text clean = (source : List ℕ) × (part : Part ℕ) × StandsIn theories f source part × IsCourseText texts f name (place_of source part) text clean

-- The same of the lemma with this name among those that the session binds.
pub record IsAnswer (texts : List (List ℕ)) (theories : List Loaded) (name text : List ℕ) (clean : Bool) : Type 0 where
  pub notes : List Note
  pub statements : AreStatements texts theories notes
  pub shown : IsShown texts theories name (lemma_named texts name (forks_of notes)) text clean
