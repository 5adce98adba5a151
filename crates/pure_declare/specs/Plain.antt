-- Commands without haves: what they leave is one part, and one note.
use Rattle.std.specs.Prelude.{◌≡◌, ◌↔◌, ℕ, List, [], ◌∷◌}
use Rattle.pure_text.specs.Lists.{Each}
use Rattle.pure_definitions.specs.Names.{Label}
use Rattle.pure_grammar.specs.Theories.TheoryText.{Command, Lemma}
use Rattle.pure_logic.specs.Content.{Content}
use Rattle.pure_declare.specs.Notes.{Note}
use Rattle.pure_declare.specs.First as first
use Rattle.pure_declare.specs.Fold.{Declares, AreDeclared}

-- The command has no haves.
abbrev pub IsPlain : Command → Type 0
IsPlain (Lemma name prop haves script) = haves ≡ []
IsPlain _ = Unit {0}

-- A command without haves leaves what it left before there were haves: one note, of its part 0.
abbrev pub DeclaresPlain : Type 0
DeclaresPlain = (texts : List (List ℕ)) (source : List ℕ) (label : Label) (Q : Content) (command : Command) (notes : List Note) (next : Content)
    → IsPlain command → label.part ≡ 0
    → Declares texts source label Q command notes next ↔ ((note : Note) × first.Declares texts source label Q command note next × (notes ≡ note ∷ []))

-- So do commands of which none has haves.
abbrev pub AreDeclaredPlain : Type 0
AreDeclaredPlain = (texts : List (List ℕ)) (source : List ℕ) (index place : ℕ) (Q : Content) (commands : List Command) (notes : List Note) (last : Content)
    → Each IsPlain commands → AreDeclared texts source index place Q commands notes last ↔ first.AreDeclared texts source index place Q commands notes last
