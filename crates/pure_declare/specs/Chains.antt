-- What a command with its parts keeps of a content.
use Rattle.std.specs.Prelude.{◌≡◌, ◌⊎◌, ℕ, List, length}
use Rattle.pure_text.specs.Lists.{IsIn}
use Rattle.pure_definitions.specs.Names.{Label}
use Rattle.pure_definitions.specs.Terms.Term.{Term}
use Rattle.pure_definitions.specs.Declarations.Decl.{PromiseDecl}
use Rattle.pure_grammar.specs.Theories.TheoryText.{Command}
use Rattle.pure_logic.specs.Content.{Content}
use Rattle.pure_lookup.specs.Laws.{IsInSession}
use Rattle.pure_theory.specs.Refusals.{IsLabelAbove}
use Rattle.pure_declare.specs.Notes.{Note, Fork, Forked}
use Rattle.pure_declare.specs.Fold.{part_label, Declares}
use Rattle.pure_declare.specs.Good.{IsGood}
use Rattle.pure_declare.specs.Grown.{IsGrown}
use Rattle.pure_declare.specs.Premises.{HasClassesAbove}
use Rattle.pure_declare.specs.Tidy.{IsTidy}

-- The content behind these notes is good, of the session, and has grown, with labels of parts before the one behind the notes; its facts are tidy where those before were; and a promise of it stood before, or is that of a fork among the notes.
pub record IsKept (texts : List (List ℕ)) (label : Label) (Q : Content) (notes : List Note) (next : Content) : Type 0 where
  pub good : IsGood next
  pub session : IsInSession texts next
  pub grown : IsGrown (part_label label (length notes)) Q next
  pub tidy : IsTidy Q → IsTidy next
  pub promises : (x : ℕ) (l : Label) (A : Term) → IsIn (PromiseDecl x l A) next.declarations
      → IsIn (PromiseDecl x l A) Q.declarations ⊎ ((f : Fork) × IsIn (Forked f) notes × (f.name ≡ x) × (f.label ≡ l) × (f.prop ≡ A))

-- Over a good content of a session, with a label of part 0 above its labels, a command's next content is such a one.
abbrev pub CommandsKeep : Type 0
CommandsKeep = (texts : List (List ℕ)) (source : List ℕ) (label : Label) (Q : Content) (command : Command) (notes : List Note) (next : Content)
    → IsInSession texts Q → IsGood Q → HasClassesAbove Q → IsLabelAbove Q.declarations (part_label label 0) → Declares texts source label Q command notes next → IsKept texts label Q notes next
