-- The parts of commands: of each comes one row or one fork, over the content that the parts before it leave.
use Rattle.std.specs.Prelude.{◌≡◌, ℕ, List, Result, Ok, Err}
use Rattle.pure_definitions.specs.Names.{Label}
use Rattle.pure_definitions.specs.Declarations.Decl.{PromiseDecl}
use Rattle.pure_grammar.specs.Theories.TheoryText.{Span, Step, Have, Command}
use Rattle.pure_typ.specs.NameTexts.{HasText}
use Rattle.pure_logic.specs.Content.{Content}
use Rattle.pure_lookup.specs.Meaning.{facts}
use Rattle.pure_theory.specs.Stage.{with_decl}
use Rattle.pure_print.specs.declared.row.Row.{Row}
use Rattle.pure_statements.specs.declared.reason.Reason.{Reason}
use Rattle.pure_statements.specs.declared.reason.Reason.TheVariants.{Duplicate}
use Rattle.pure_statements.specs.declared.stated.Stated.{Stated}
use Rattle.pure_statements.specs.Chain.{Then, Unless, Gives}
use Rattle.pure_statements.specs.Statement.{IsStated}
use Rattle.pure_statements.specs.Rows.{have_text, refused_have}
use Rattle.pure_declare.specs.Notes.{Note, Said, Forked, Outcome}
use Rattle.pure_declare.specs.Commands.{Place, IsOwnText, IsNameOf, IsTaken, vocabulary}
use Rattle.pure_declare.specs.First.{IsDeclaredAs}

-- A part of a command: the command as a whole, of which comes a row; a have of the lemma with this base; or the own end of a lemma whose statement stands, behind its haves.
pub data Part : Type 0 where
  Whole : (command : Command) → Part
  Within : (lemma : List ℕ) → (have : Have) → Part
  End : (lemma : List ℕ) → (prop : Span) → (script : List Step) → Part

-- what a statement leaves that is bound under this name, in the lemma of that name: its fork, with the content before it; the next content has its promise
abbrev pub binding : Place → (number lemma : ℕ) → List Step → Stated → Outcome
binding P n m script s = record {
  note = Forked (record { label = P.label; name = n; lemma = m; content = P.content; fixed = s.fixed; prop = s.prop; script = script });
  next = with_decl P.content (PromiseDecl n P.label s.prop);
}

-- A statement in the lemma of that name: no fact has its own name, and it is stated. It is bound before its proof is run.
unfoldable pub IsBoundOutcome : Place → (number lemma : ℕ) → Span → List Step → Result Outcome Reason → Type 0
IsBoundOutcome P n m span script =
    Unless (IsTaken P facts n) Duplicate
    (Then (IsStated (vocabulary P) P.source span) (λ s.
    Gives (binding P n m script s)))

-- The name of the have with this name, in the lemma with this base.
abbrev pub IsNameOfHave : Place → (lemma name : List ℕ) → ℕ → Type 0
IsNameOfHave P lemma name n = HasText P.texts n (have_text P.theory lemma name)

-- What a have does, or why it is refused: its duplicate is a fact with its full name. In a session that is an earlier have of the same lemma, since no base of a command has a dot.
abbrev pub IsHaveOutcome : Place → (lemma : List ℕ) → Have → Result Outcome Reason → Type 0
IsHaveOutcome P lemma have answer = (n : ℕ) × (m : ℕ) × IsNameOfHave P lemma have.name n × IsNameOf P lemma m × IsBoundOutcome P n m have.prop have.script answer

-- what a have leaves that is refused: its row, and the content as it is
abbrev pub have_refused : Place → (lemma : List ℕ) → Have → Reason → Outcome
have_refused P lemma have reason = record { note = Said (refused_have P.texts P.source P.theory lemma have.name reason); next = P.content }

-- what comes of a have
abbrev pub have_outcome : Place → (lemma : List ℕ) → Have → Result Outcome Reason → Outcome
have_outcome P lemma have (Ok outcome) = outcome
have_outcome P lemma have (Err reason) = have_refused P lemma have reason

-- The have does or is refused so.
pub record IsHaveDeclaredAs (P : Place) (lemma : List ℕ) (have : Have) (outcome : Outcome) : Type 0 where
  pub answer : Result Outcome Reason
  pub is : IsHaveOutcome P lemma have answer
  pub comes : outcome ≡ have_outcome P lemma have answer

-- The lemma is bound so, in itself. That it stands was tested before its haves; these add promises of other names alone, so that it stands behind them too, and states the same.
abbrev pub IsEndedAs : Place → (lemma : List ℕ) → Span → List Step → Outcome → Type 0
IsEndedAs P lemma span script outcome = (n : ℕ) × IsNameOf P lemma n × IsBoundOutcome P n n span script (Ok outcome)

-- A row is left, and no fork.
abbrev pub LeavesRow : Outcome → Type 0
LeavesRow outcome = (row : Row) × (outcome.note ≡ Said row)

-- The part does or is refused so.
abbrev pub IsPartDeclaredAs : Place → Part → Outcome → Type 0
IsPartDeclaredAs P (Whole command) outcome = IsDeclaredAs P command outcome × LeavesRow outcome
IsPartDeclaredAs P (Within lemma have) outcome = IsHaveDeclaredAs P lemma have outcome
IsPartDeclaredAs P (End lemma prop script) outcome = IsEndedAs P lemma prop script outcome

-- Over the content Q the part, under this label, leaves this note and the next content.
pub record DeclaresPart (texts : List (List ℕ)) (source : List ℕ) (label : Label) (Q : Content) (part : Part) (note : Note) (next : Content) : Type 0 where
  pub theory : List ℕ
  pub own : IsOwnText texts Q theory
  pub declares : IsPartDeclaredAs (record { texts = texts; source = source; label = label; theory = theory; content = Q }) part (record { note = note; next = next })
