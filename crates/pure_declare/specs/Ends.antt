-- Lemmas with haves: the lemma's own fork is that which it has where they are passed over, over what they leave; and forks of one lemma are of one command.
use Rattle.std.specs.Prelude.{◌≡◌, ℕ, List, [], ◌∷◌, ◌++◌, length}
use Rattle.pure_text.specs.Lists.{IsIn}
use Rattle.pure_definitions.specs.Names.{Label}
use Rattle.pure_definitions.specs.Declarations.Decl.{Decl, PromiseDecl}
use Rattle.pure_grammar.specs.Theories.TheoryText.{Span, Step, Have, Command, Lemma}
use Rattle.pure_typ.specs.NameTexts.{AreSessionTexts}
use Rattle.pure_logic.specs.Content.{Content}
use Rattle.pure_lookup.specs.Laws.{IsInSession}
use Rattle.pure_theory.specs.Stage.{with_declarations, with_decl}
use Rattle.pure_print.specs.declared.row.Row.{Row}
use Rattle.pure_declare.specs.Notes.{Note, Said, Fork, Forked}
use Rattle.pure_declare.specs.First as first
use Rattle.pure_declare.specs.Fold.{part_label, Declares, AreDeclared}
use Rattle.pure_declare.specs.Good.{IsGood}

-- the promises of the forks among these notes, in order
abbrev pub promises_of : List Note → List Decl
promises_of [] = []
promises_of (Said row ∷ notes) = promises_of notes
promises_of (Forked f ∷ notes) = PromiseDecl f.name f.label f.prop ∷ promises_of notes

-- The notes end with the lemma's own fork, behind one note for each have. It has the name, the statements and the proof that the lemma has where its haves are passed over, and the number of its haves as its part; its content is the one before the command with the promises of the haves that stand; the next content has its own promise, too; and each fork is of the lemma.
pub record IsOwnEnd (label : Label) (Q : Content) (haves : List Have) (f : Fork) (notes : List Note) (next : Content) : Type 0 where
  pub front : List Note
  pub own : Fork
  pub notes_are : notes ≡ front ++ Forked own ∷ []
  pub count : length front ≡ length haves
  pub label_is : own.label ≡ part_label label (length haves)
  pub name : own.name ≡ f.name
  pub fixed : own.fixed ≡ f.fixed
  pub prop : own.prop ≡ f.prop
  pub script : own.script ≡ f.script
  pub content : own.content ≡ with_declarations Q (Q.declarations ++ promises_of front)
  pub next_is : next ≡ with_decl own.content (PromiseDecl own.name own.label own.prop)
  pub lemma : (g : Fork) → IsIn (Forked g) notes → g.lemma ≡ own.name

-- A lemma that is bound where its haves are passed over is bound behind them so.
abbrev pub LemmasEnd : Type 0
LemmasEnd = (texts : List (List ℕ)) (source : List ℕ) (label : Label) (Q : Content) (x : List ℕ) (span : Span) (haves : List Have) (script : List Step) (f : Fork) (bound : Content)
    → IsInSession texts Q → IsGood Q → first.Declares texts source (part_label label 0) Q (Lemma x span haves script) (Forked f) bound
    → (notes : List Note) (next : Content) → Declares texts source label Q (Lemma x span haves script) notes next → IsOwnEnd label Q haves f notes next

-- A lemma that is refused where its haves are passed over leaves its row alone, and the content as it is.
abbrev pub LemmasRefused : Type 0
LemmasRefused = (texts : List (List ℕ)) (source : List ℕ) (label : Label) (Q : Content) (x : List ℕ) (span : Span) (haves : List Have) (script : List Step) (row : Row) (after : Content)
    → IsInSession texts Q → IsGood Q → first.Declares texts source (part_label label 0) Q (Lemma x span haves script) (Said row) after
    → (notes : List Note) (next : Content) → Declares texts source label Q (Lemma x span haves script) notes next → (notes ≡ Said row ∷ []) × (next ≡ Q)

-- Where names are those of a session, two forks of a theory with the same lemma are of one command.
abbrev pub OneCommandOfLemma : Type 0
OneCommandOfLemma = (texts : List (List ℕ)) (source : List ℕ) (index place : ℕ) (Q : Content) (commands : List Command) (notes : List Note) (last : Content)
    → AreSessionTexts texts → AreDeclared texts source index place Q commands notes last
    → (f g : Fork) → IsIn (Forked f) notes → IsIn (Forked g) notes → f.lemma ≡ g.lemma → (f.label.theory ≡ g.label.theory) × (f.label.command ≡ g.label.command)
