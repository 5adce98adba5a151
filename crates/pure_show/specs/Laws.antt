-- Laws of what is shown.
use Rattle.std.specs.Prelude.{◌≡◌, ℕ, Bool, List}
use Rattle.pure_definitions.specs.Declarations.Decl.{algebra_of}
use Rattle.pure_logic.specs.Content.{IsContent}
use Rattle.pure_lookup.specs.Laws.{IsInSession}
use Rattle.pure_order_tables.specs.Classes.{IsAntisymmetric}
use Rattle.pure_theory_run.specs.Declare.Notes.{Fork}
use Rattle.pure_show.specs.Answers.{IsCourseText}

-- One text at most shows a lemma's proof, with these places of its steps, over a content that a session gives, in whose order no two classes are below each other.
abbrev pub ShownOnce : Type 0
ShownOnce = (texts : List (List ℕ)) (f : Fork) → IsInSession texts f.content → IsContent f.content → IsAntisymmetric (algebra_of f.content.declarations) → (name : List ℕ) (place : ℕ → List ℕ) (one other : List ℕ) (clean also : Bool)
    → IsCourseText texts f name place one clean → IsCourseText texts f name place other also → (one ≡ other) × (clean ≡ also)
