-- What a command keeps of a content.
use Rattle.std.specs.Prelude.{◌≡◌, ℕ, List}
use Rattle.pure_definitions.specs.Names.{Label}
use Rattle.pure_grammar.specs.Theories.TheoryText.{Command}
use Rattle.pure_logic.specs.Content.{Content, IsBelow, IsContent}
use Rattle.pure_lookup.specs.Laws.{IsInSession}
use Rattle.pure_theory.specs.Refusals.{IsBefore, IsLabelAbove}
use Rattle.pure_declare.specs.Notes.{Note}
use Rattle.pure_declare.specs.First.{Declares}
use Rattle.pure_declare.specs.Parts.{Part, DeclaresPart}
use Rattle.pure_declare.specs.Premises.{HasClassesAbove}

-- The second content is the first with more declarations, in the same theory; the classes above a class are declared; and each label behind this one is above all its labels.
pub record IsGrown (label : Label) (Q R : Content) : Type 0 where
  pub own : R.own ≡ Q.own
  pub ancestors : R.ancestors ≡ Q.ancestors
  pub below : IsBelow Q R
  pub above : HasClassesAbove R
  pub labels : (later : Label) → IsBefore label later → IsLabelAbove R.declarations later

-- A command's next content has grown.
abbrev pub DeclaresGrown : Type 0
DeclaresGrown = (texts : List (List ℕ)) (source : List ℕ) (label : Label) (Q : Content) (command : Command) (note : Note) (next : Content)
    → IsInSession texts Q → IsContent Q → HasClassesAbove Q → IsLabelAbove Q.declarations label → Declares texts source label Q command note next → IsGrown label Q next

-- So has a part's.
abbrev pub PartsGrow : Type 0
PartsGrow = (texts : List (List ℕ)) (source : List ℕ) (label : Label) (Q : Content) (part : Part) (note : Note) (next : Content)
    → IsInSession texts Q → IsContent Q → HasClassesAbove Q → IsLabelAbove Q.declarations label → DeclaresPart texts source label Q part note next → IsGrown label Q next
