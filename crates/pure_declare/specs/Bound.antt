-- The lemmas and haves that commands bind.
use Rattle.std.specs.Prelude.{◌≡◌, ℕ, List}
use Rattle.pure_definitions.specs.Names.{Label}
use Rattle.pure_grammar.specs.Theories.TheoryText.{Span, Step, Have, Command, Lemma}
use Rattle.pure_logic.specs.Content.{Content, IsProposition}
use Rattle.pure_typ.specs.NameTexts.{HasText}
use Rattle.pure_lookup.specs.Meaning.{full_text}
use Rattle.pure_lookup.specs.Laws.{IsInSession}
use Rattle.pure_theory.specs.Stage.{IsSound}
use Rattle.pure_statements.specs.Rows.{have_text}
use Rattle.pure_declare.specs.Notes.{Fork, Forked}
use Rattle.pure_declare.specs.Commands.{IsOwnText}
use Rattle.pure_declare.specs.First.{Declares}
use Rattle.pure_declare.specs.Parts.{Part, Whole, Within, End, DeclaresPart}

-- A lemma that a command binds: its label and its content are those of the command, its statement is a proposition of the content, and its proof is the command's.
pub record IsBoundAs (label : Label) (Q : Content) (command : Command) (f : Fork) : Type 0 where
  pub label_is : f.label ≡ label
  pub content_is : f.content ≡ Q
  pub proposition : IsProposition Q f.fixed
  pub from : (base : List ℕ) × (span : Span) × (haves : List Have) × (command ≡ Lemma base span haves f.script)

-- Over a sound content of a session the lemma that a command leaves is one that it binds.
abbrev pub ForksBound : Type 0
ForksBound = (texts : List (List ℕ)) (source : List ℕ) (label : Label) (Q : Content) (command : Command) (f : Fork) (next : Content)
    → IsInSession texts Q → IsSound Q → Declares texts source label Q command (Forked f) next → IsBoundAs label Q command f

-- The part is a have, or a lemma's own end, and this is its proof.
abbrev pub IsProvedBy : Part → (script : List Step) → Type 0
IsProvedBy (Whole command) script = ⊥
IsProvedBy (Within lemma have) script = script ≡ have.script
IsProvedBy (End lemma prop proof) script = script ≡ proof

-- In the theory with this text the fork has the full name of the have, or of the lemma whose end the part is; and its lemma's is that of the lemma.
abbrev pub IsNamedBy : (texts : List (List ℕ)) → (theory : List ℕ) → Part → Fork → Type 0
IsNamedBy texts theory (Whole command) f = ⊥
IsNamedBy texts theory (Within lemma have) f = HasText texts f.name (have_text theory lemma have.name) × HasText texts f.lemma (full_text theory lemma)
IsNamedBy texts theory (End lemma prop proof) f = HasText texts f.name (full_text theory lemma) × (f.lemma ≡ f.name)

-- What a part binds: its label and its content are those of the part, its names and its proof the part's, and its statement is a proposition of the content.
pub record IsBoundIn (texts : List (List ℕ)) (label : Label) (Q : Content) (part : Part) (f : Fork) : Type 0 where
  pub theory : List ℕ
  pub own : IsOwnText texts Q theory
  pub named : IsNamedBy texts theory part f
  pub label_is : f.label ≡ label
  pub content_is : f.content ≡ Q
  pub proposition : IsProposition Q f.fixed
  pub proof : IsProvedBy part f.script

-- Over a sound content of a session the fork that a part leaves is one that it binds.
abbrev pub PartForksBound : Type 0
PartForksBound = (texts : List (List ℕ)) (source : List ℕ) (label : Label) (Q : Content) (part : Part) (f : Fork) (next : Content)
    → IsInSession texts Q → IsSound Q → DeclaresPart texts source label Q part (Forked f) next → IsBoundIn texts label Q part f
