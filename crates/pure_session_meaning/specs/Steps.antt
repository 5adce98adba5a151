-- The steps of a theory's run: it begins, each command takes it further, and it closes.
use Rattle.std.specs.Prelude.{ℕ, List, [], ◌∷◌, ◌++◌, length}
use Rattle.pure_definitions.specs.Names.{Label}
use Rattle.pure_grammar.specs.Theories.TheoryText.{Command}
use Rattle.pure_logic.specs.Content.{Content}
use Rattle.pure_graph.specs.Order.{Loaded}
use Rattle.pure_session_laws.specs.Declare.Notes.{Note}
use Rattle.pure_session_laws.specs.Declare.Fold.{Declares}
use Rattle.pure_session_meaning.specs.Verdicts.{Verdict, Ran, IsTheoryAt, Begins, Closes, AllClose}
use Rattle.pure_session_meaning.specs.Statements.{IsRun}

-- the label of the command at this place of the theory with this index, and of its part 0
abbrev pub command_label : (index place : ℕ) → Label
command_label index place = record { theory = index; command = place; part = 0 }

-- A theory that begins is a run without notes, with all its commands left.
abbrev pub RunBegins : Type 0
RunBegins = (texts : List (List ℕ)) (theories : List Loaded) (index : ℕ) (theory : Loaded) → IsTheoryAt theories index theory
    → (parents : List Verdict) → AllClose texts theories theory.parents parents → (first : Content) → Begins texts index theory parents first
    → IsRun texts theories index [] first theory.text.commands

-- A run goes on with all that its next command declares.
abbrev pub RunGoesOn : Type 0
RunGoesOn = (texts : List (List ℕ)) (theories : List Loaded) (index : ℕ) (theory : Loaded) → IsTheoryAt theories index theory
    → (notes : List Note) (now : Content) (command : Command) (left : List Command) (run : IsRun texts theories index notes now (command ∷ left))
    → (more : List Note) (next : Content) → Declares texts theory.source (command_label index (length run.done)) now command more next
    → IsRun texts theories index (notes ++ more) next left

-- A run with no command left closes the theory.
abbrev pub RunCloses : Type 0
RunCloses = (texts : List (List ℕ)) (theories : List Loaded) (index : ℕ) (notes : List Note) (now : Content) → IsRun texts theories index notes now [] → Closes texts theories index (Ran notes now)
