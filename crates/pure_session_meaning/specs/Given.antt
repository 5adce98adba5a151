-- What the calls that begin theories and declare are given in a session, so that theories close.
use Rattle.std.specs.Prelude.{ℕ, List, ◌∷◌, ◌++◌, length}
use Rattle.pure_definitions.specs.Names.{Label}
use Rattle.pure_grammar.specs.Theories.TheoryText.{Command}
use Rattle.pure_typ.specs.NameTexts.{HasText}
use Rattle.pure_logic.specs.Content.{Content}
use Rattle.pure_session_laws.specs.Theory.Begin.{MayBegin}
use Rattle.pure_graph.specs.Order.{Loaded}
use Rattle.pure_session_laws.specs.Declare.Notes.{Note}
use Rattle.pure_session_laws.specs.Declare.Premises.{HasNames, HasRanges, HasPartLabels, IsGiven}
use Rattle.pure_session_laws.specs.Loaded.{IsLoadedSession}
use Rattle.pure_session_meaning.specs.Verdicts.{Verdict, Ran, IsTheoryAt, AreLast, beginning_over, Closes, AllClose}
use Rattle.pure_session_meaning.specs.Statements.{IsRun}
use Rattle.pure_session_meaning.specs.Steps.{command_label}

-- What a command is given over a content: names for what it declares, ranges that lie in the source, a label of part 0 above those of the content, which is one of the session, and not too many haves.
pub record IsNextGiven (texts : List (List ℕ)) (source : List ℕ) (Q : Content) (label : Label) (command : Command) : Type 0 where
  pub names : HasNames texts Q command
  pub ranges : HasRanges source command
  pub given : IsGiven texts source Q label
  pub labels : HasPartLabels label command

-- The next command of a run is given all that.
abbrev pub RunsGive : Type 0
RunsGive = (texts : List (List ℕ)) (theories : List Loaded) → IsLoadedSession texts theories → (index : ℕ) (theory : Loaded) → IsTheoryAt theories index theory
    → (notes : List Note) (now : Content) (command : Command) (left : List Command) (run : IsRun texts theories index notes now (command ∷ left))
    → IsNextGiven texts theory.source now (command_label index (length run.done)) command

-- A run goes on, so that the theory closes: each theory that begins does.
abbrev pub RunsClose : Type 0
RunsClose = (texts : List (List ℕ)) (theories : List Loaded) → IsLoadedSession texts theories → (index : ℕ) (notes : List Note) (now : Content) (left : List Command)
    → IsRun texts theories index notes now left → (more : List Note) × (last : Content) × Closes texts theories index (Ran (notes ++ more) last)

-- A theory of the session whose parents ran may begin over their last contents.
abbrev pub TheoriesMayBegin : Type 0
TheoriesMayBegin = (texts : List (List ℕ)) (theories : List Loaded) → IsLoadedSession texts theories → (index : ℕ) (theory : Loaded) → IsTheoryAt theories index theory
    → (parents : List Verdict) → AllClose texts theories theory.parents parents → (contents : List Content) → AreLast parents contents
    → (name : ℕ) → HasText texts name theory.name → MayBegin (record { name = name; index = index }) (beginning_over contents)
