-- The fold over a theory's commands, part by part: for each part its note and the next content.
use Rattle.std.specs.Prelude.{◌≡◌, ◌⊎◌, ℕ, ◌+◌, List, [], ◌∷◌, ◌++◌, map, Ok}
use Rattle.pure_definitions.specs.Names.{Label}
use Rattle.pure_grammar.specs.Theories.TheoryText.{Command, Lemma}
use Rattle.pure_logic.specs.Content.{Content}
use Rattle.pure_declare.specs.Notes.{Note, Outcome}
use Rattle.pure_declare.specs.Commands.{Place, IsOwnText, IsOutcome}
use Rattle.pure_declare.specs.Parts.{Part, Whole, Within, End, DeclaresPart}

-- The command isn't refused: of a lemma, its own statement stands.
abbrev pub Stands : Place → Command → Type 0
Stands P command = (outcome : Outcome) × IsOutcome P command (Ok outcome)

-- The command has these parts over the content before it. A lemma whose own statement stands there has its haves, in their order, and then its own end; a lemma that is refused, and any other command, is one part.
abbrev pub HasParts : Place → Command → List Part → Type 0
HasParts P (Lemma x span haves script) parts =
    (Stands P (Lemma x span haves script) × (parts ≡ map (Within x) haves ++ End x span script ∷ []))
    ⊎ (parts ≡ Whole (Lemma x span haves script) ∷ [])
HasParts P command parts = parts ≡ Whole command ∷ []

-- the command's label with this place as its part
abbrev pub part_label : Label → (place : ℕ) → Label
part_label label place = record { theory = label.theory; command = label.command; part = place }

-- The parts of the command with this label, from the one at this place on, leave these notes, one each, and the content behind them: each is tested in the content that those before it leave, and has its place in its label.
abbrev pub AreParts : (texts : List (List ℕ)) → (source : List ℕ) → Label → (place : ℕ) → Content → List Part → List Note → (last : Content) → Type 0
AreParts texts source label place Q [] notes last = (notes ≡ []) × (last ≡ Q)
AreParts texts source label place Q (part ∷ parts) notes last =
    (note : Note) × (next : Content) × (more : List Note)
    × DeclaresPart texts source (part_label label place) Q part note next
    × AreParts texts source label (place + 1) next parts more last
    × (notes ≡ note ∷ more)

-- Over the content Q the command leaves these notes, in the order of the rows, and the content behind it.
pub record Declares (texts : List (List ℕ)) (source : List ℕ) (label : Label) (Q : Content) (command : Command) (notes : List Note) (next : Content) : Type 0 where
  pub theory : List ℕ
  pub own : IsOwnText texts Q theory
  pub parts : List Part
  pub has : HasParts (record { texts = texts; source = source; label = part_label label 0; theory = theory; content = Q }) command parts
  pub are : AreParts texts source label 0 Q parts notes next

-- The commands of the theory with this index, from the one at this place on, leave these notes, and the last content.
abbrev pub AreDeclared : (texts : List (List ℕ)) → (source : List ℕ) → (index place : ℕ) → Content → List Command → List Note → (last : Content) → Type 0
AreDeclared texts source index place Q [] notes last = (notes ≡ []) × (last ≡ Q)
AreDeclared texts source index place Q (command ∷ commands) notes last =
    (first : List Note) × (next : Content) × (more : List Note)
    × Declares texts source (record { theory = index; command = place; part = 0 }) Q command first next
    × AreDeclared texts source index (place + 1) next commands more last
    × (notes ≡ first ++ more)
