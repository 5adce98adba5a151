-- Properties that the contents of a session keep.
use Rattle.std.specs.Prelude.{ℕ, ◌+◌, List, ◌∷◌, length}
use Rattle.pure_text.specs.Lists.{Each}
use Rattle.pure_definitions.specs.Names.{Label}
use Rattle.pure_grammar.specs.Theories.TheoryText.{Command}
use Rattle.pure_logic.specs.Content.{Content}
use Rattle.pure_logic.specs.PureContent.{pure_content}
use Rattle.pure_session_laws.specs.Theory.Refusals.{IsBefore}
use Rattle.pure_graph.specs.Order.{Loaded}
use Rattle.pure_session_laws.specs.Declare.Notes.{Note}
use Rattle.pure_session_laws.specs.Declare.Fold.{Declares}
use Rattle.pure_session_meaning.specs.Verdicts.{Verdict, IsTheoryAt, Begins, AllClose, beginning_over}
use Rattle.pure_session_meaning.specs.Statements.{IsRun}
use Rattle.pure_session_meaning.specs.Steps.{command_label}

-- The contents of a session keep the property, which speaks of a content and of the label of the command that comes next: Pure's has it, it stays with a later label, a theory begins with it over contents that have it, and each command of a run keeps it.
pub record IsKept (texts : List (List ℕ)) (theories : List Loaded) (Has : Label → Content → Type 0) : Type 0 where
  pub pure : (label : Label) → Has label pure_content
  pub later : (label other : Label) (Q : Content) → IsBefore label other → Has label Q → Has other Q
  pub begins : (index : ℕ) (theory : Loaded) → IsTheoryAt theories index theory → (parents : List Verdict) → AllClose texts theories theory.parents parents → (first : Content) (begins : Begins texts index theory parents first)
      → Each (Has (command_label index 0)) (beginning_over begins.contents) → Has (command_label index 0) first
  pub declares : (index : ℕ) (notes : List Note) (now : Content) (command : Command) (left : List Command) (run : IsRun texts theories index notes now (command ∷ left)) (more : List Note) (next : Content)
      → Declares texts run.theory.source (command_label index (length run.done)) now command more next → Has (command_label index (length run.done)) now → Has (command_label index (length run.done + 1)) next
