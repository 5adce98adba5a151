-- What every content of a session is.
use Rattle.std.specs.Prelude.{ℕ, List, []}
use Rattle.pure_definitions.specs.Names.{Label}
use Rattle.pure_definitions.specs.Declarations.Decl.{classes_of, algebra_of}
use Rattle.pure_grammar.specs.Theories.TheoryText.{Command}
use Rattle.pure_order.specs.OrderTables.Classes.{Follows, IsAntisymmetric}
use Rattle.pure_logic.specs.Content.{Content, IsContent, IsBelow}
use Rattle.pure_logic.specs.PureContent.{pure_content}
use Rattle.pure_lookup.specs.Laws.{IsInSession}
use Rattle.pure_theory.specs.Stage.{IsSound}
use Rattle.pure_theory.specs.Refusals.{IsLabelAbove}
use Rattle.pure_elab.specs.Sound.{AreCertifiedDeclarations}
use Rattle.pure_declare.specs.Notes.{Note}
use Rattle.pure_declare.specs.First.{Declares}
use Rattle.pure_declare.specs.Parts.{Part, DeclaresPart}

-- What every content of a session is: sound, with each class declared once and after those above it, so that no two classes are below each other.
pub record IsGood (Q : Content) : Type 0 where
  pub sound : IsSound Q
  pub ordered : Follows [] (classes_of Q.declarations)
  pub antisymmetric : IsAntisymmetric (algebra_of Q.declarations)

-- Pure's content is so, and each command keeps a content so.
abbrev pub PureIsGood : Type 0
PureIsGood = IsGood pure_content

abbrev pub DeclaresGood : Type 0
DeclaresGood = (texts : List (List ℕ)) (source : List ℕ) (label : Label) (Q : Content) (command : Command) (note : Note) (next : Content)
    → IsInSession texts Q → IsGood Q → IsLabelAbove Q.declarations label → Declares texts source label Q command note next → IsGood next

-- So does each part.
abbrev pub PartsGood : Type 0
PartsGood = (texts : List (List ℕ)) (source : List ℕ) (label : Label) (Q : Content) (part : Part) (note : Note) (next : Content)
    → IsInSession texts Q → IsGood Q → IsLabelAbove Q.declarations label → DeclaresPart texts source label Q part note next → IsGood next

-- A content above Pure's, whose declarations are certified, and so over declared classes alone: what is asked of a content over which terms are unified.
pub record IsCertifiedContent (Q : Content) : Type 0 where
  pub content : IsContent Q
  pub above : IsBelow pure_content Q
  pub certified : AreCertifiedDeclarations Q.declarations

-- A good content is such a one.
abbrev pub GoodIsCertified : Type 0
GoodIsCertified = (Q : Content) → IsGood Q → IsCertifiedContent Q
