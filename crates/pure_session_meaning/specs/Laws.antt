-- Laws of what becomes of theories: what each content of a session is, that promises are those of lemmas and haves bound before, and that everything has one value at most.
use Rattle.std.specs.Prelude.{◌≡◌, ℕ, List, ◌∷◌, ◌++◌, length, map}
use Rattle.pure_text.specs.Lists.{IsIn}
use Rattle.pure_definitions.specs.Names.{Label}
use Rattle.pure_definitions.specs.Terms.Term.{Term}
use Rattle.pure_definitions.specs.Declarations.Decl.{PromiseDecl}
use Rattle.pure_grammar.specs.Theories.TheoryText.{Command}
use Rattle.pure_logic.specs.Content.{Content, IsBelow}
use Rattle.pure_lookup.specs.Laws.{IsInSession}
use Rattle.pure_theorem.specs.Sets.{IsLabelSet}
use Rattle.pure_session_laws.specs.Theory.Refusals.{IsLabelAbove}
use Rattle.pure_graph.specs.Order.{Loaded}
use Rattle.pure_session_laws.specs.Declare.Notes.{Fork, Note, Forked}
use Rattle.pure_session_laws.specs.Declare.Commands.{IsOwnText}
use Rattle.pure_session_laws.specs.Declare.Parts.{Part, DeclaresPart}
use Rattle.pure_session_laws.specs.Declare.Fold.{HasParts, part_label, AreParts}
use Rattle.pure_session_laws.specs.Declare.Tidy.{IsTidy}
use Rattle.pure_session_laws.specs.Declare.Good.{IsGood}
use Rattle.pure_session_laws.specs.Method.Outcome.{IsProvable}
use Rattle.pure_session_laws.specs.Loaded.{IsLoadedSession}
use Rattle.pure_session_meaning.specs.Verdicts.{Verdict, Closes}
use Rattle.pure_session_meaning.specs.Steps.{command_label}
use Rattle.pure_session_meaning.specs.Statements.{forks_of, AreStatements, IsRun, IsFork}

-- What each content of a session is: good, in the session, and with tidy facts alone.
pub record IsOrderly (texts : List (List ℕ)) (Q : Content) : Type 0 where
  pub good : IsGood Q
  pub in_session : IsInSession texts Q
  pub tidy : IsTidy Q

-- While a theory runs its contents are such ones.
abbrev pub RunsOrderly : Type 0
RunsOrderly = (texts : List (List ℕ)) (theories : List Loaded) → IsLoadedSession texts theories → (index : ℕ) (notes : List Note) (now : Content) (left : List Command)
    → IsRun texts theories index notes now left → IsOrderly texts now

-- A proof can be run of each lemma and have that is bound.
abbrev pub ForksProvable : Type 0
ForksProvable = (texts : List (List ℕ)) (theories : List Loaded) → IsLoadedSession texts theories → (index others : ℕ) (f : Fork) → IsFork texts theories index others f → IsProvable texts f

-- The lemma or have is bound in the session somewhere.
abbrev pub IsSomeFork : (texts : List (List ℕ)) → (theories : List Loaded) → Fork → Type 0
IsSomeFork texts theories f = (index : ℕ) × (others : ℕ) × IsFork texts theories index others f

-- Over the content Q the command's first parts left these notes, one each, and the content behind them, and this part is the next.
pub record IsAmid (texts : List (List ℕ)) (source : List ℕ) (label : Label) (Q : Content) (command : Command) (notes : List Note) (now : Content) (part : Part) : Type 0 where
  pub theory : List ℕ
  pub own : IsOwnText texts Q theory
  pub passed : List Part
  pub ahead : List Part
  pub has : HasParts (record { texts = texts; source = source; label = part_label label 0; theory = theory; content = Q }) command (passed ++ part ∷ ahead)
  pub are : AreParts texts source label 0 Q passed notes now

-- What is bound stands where a run has come to its command, over the content that the command's parts before its own leave, and its part leaves it. Its label is the command's, with the number of these parts as its part, and comes after those of the content's promises; and that content is what each of a session is.
pub record IsStanding (texts : List (List ℕ)) (theories : List Loaded) (f : Fork) : Type 0 where
  pub index : ℕ
  pub notes : List Note
  pub before : Content
  pub command : Command
  pub left : List Command
  pub run : IsRun texts theories index notes before (command ∷ left)
  pub inner : List Note
  pub part : Part
  pub amid : IsAmid texts run.theory.source (command_label index (length run.done)) before command inner f.content part
  pub label : f.label ≡ part_label (command_label index (length run.done)) (length inner)
  pub next : Content
  pub declares : DeclaresPart texts run.theory.source f.label f.content part (Forked f) next
  pub above : IsLabelAbove f.content.declarations f.label
  pub orderly : IsOrderly texts f.content

-- Each lemma and have that is bound stands so.
abbrev pub ForksStand : Type 0
ForksStand = (texts : List (List ℕ)) (theories : List Loaded) → IsLoadedSession texts theories → (f : Fork) → IsSomeFork texts theories f → IsStanding texts theories f

-- A promise is that of a lemma or have: with its label and its statement, over a content that is below this one, and so bound before.
pub record IsPromiseOf (l : Label) (A : Term) (Q : Content) (f : Fork) : Type 0 where
  pub label : f.label ≡ l
  pub prop : f.prop ≡ A
  pub below : IsBelow f.content Q

-- Each promise of a content is that of a lemma or have of the session.
abbrev pub PromisesAreForks : Type 0
PromisesAreForks = (texts : List (List ℕ)) (theories : List Loaded) → IsLoadedSession texts theories → (index : ℕ) (notes : List Note) (now : Content) (left : List Command)
    → IsRun texts theories index notes now left → (x : ℕ) (l : Label) (A : Term) → IsIn (PromiseDecl x l A) now.declarations → (f : Fork) × IsSomeFork texts theories f × IsPromiseOf l A now f

-- So is each promise of a content over which a lemma or have stands, which may lie between parts of a command.
abbrev pub PromisesBeforeForks : Type 0
PromisesBeforeForks = (texts : List (List ℕ)) (theories : List Loaded) → IsLoadedSession texts theories → (f : Fork) → IsSomeFork texts theories f
    → (x : ℕ) (l : Label) (A : Term) → IsIn (PromiseDecl x l A) f.content.declarations → (g : Fork) × IsSomeFork texts theories g × IsPromiseOf l A f.content g

-- Two that are of one lemma are of one command.
abbrev pub ForksOfOneCommand : Type 0
ForksOfOneCommand = (texts : List (List ℕ)) (theories : List Loaded) → IsLoadedSession texts theories → (f g : Fork) → IsSomeFork texts theories f → IsSomeFork texts theories g
    → f.lemma ≡ g.lemma → (f.label.theory ≡ g.label.theory) × (f.label.command ≡ g.label.command)

-- The lemmas and haves that a session's notes bind are just those that are bound somewhere in it.
abbrev pub StatementsBindForks : Type 0
StatementsBindForks = (texts : List (List ℕ)) (theories : List Loaded) → IsLoadedSession texts theories → (notes : List Note) → AreStatements texts theories notes
    → (f : Fork) → (IsIn f (forks_of notes) → IsSomeFork texts theories f) × (IsSomeFork texts theories f → IsIn f (forks_of notes))

-- Their labels ascend.
abbrev pub LabelsAscend : Type 0
LabelsAscend = (texts : List (List ℕ)) (theories : List Loaded) → IsLoadedSession texts theories → (notes : List Note) → AreStatements texts theories notes → IsLabelSet (map Fork.label (forks_of notes))

-- One thing at most becomes of a theory.
abbrev pub ClosesOnce : Type 0
ClosesOnce = (texts : List (List ℕ)) (theories : List Loaded) → IsLoadedSession texts theories → (index : ℕ) (v w : Verdict) → Closes texts theories index v → Closes texts theories index w → v ≡ w

-- There is one list of notes at most.
abbrev pub StatementsOnce : Type 0
StatementsOnce = (texts : List (List ℕ)) (theories : List Loaded) → IsLoadedSession texts theories → (notes others : List Note) → AreStatements texts theories notes → AreStatements texts theories others → notes ≡ others

-- A theory's lemma or have after so many others is one.
abbrev pub ForkOnce : Type 0
ForkOnce = (texts : List (List ℕ)) (theories : List Loaded) → IsLoadedSession texts theories → (index before : ℕ) (f g : Fork) → IsFork texts theories index before f → IsFork texts theories index before g → f ≡ g
