-- A command has one outcome at most.
use Rattle.std.specs.Prelude.{◌≡◌, ℕ, List}
use Rattle.pure_definitions.specs.Names.{Label}
use Rattle.pure_grammar.specs.Theories.TheoryText.{Command}
use Rattle.pure_logic.specs.Content.{Content}
use Rattle.pure_lookup.specs.Laws.{IsInSession}
use Rattle.pure_declare.specs.Notes.{Note}
use Rattle.pure_declare.specs.First.{Declares}
use Rattle.pure_declare.specs.Parts.{Part, DeclaresPart}
use Rattle.pure_declare.specs.Fold as fold
use Rattle.pure_declare.specs.Good.{IsGood}

-- Over a good content of a session a command leaves one note and one next content at most.
abbrev pub DeclaresOnce : Type 0
DeclaresOnce = (texts : List (List ℕ)) (source : List ℕ) (label : Label) (Q : Content) (command : Command) (note other : Note) (next more : Content)
    → IsInSession texts Q → IsGood Q → Declares texts source label Q command note next → Declares texts source label Q command other more
    → (note ≡ other) × (next ≡ more)

-- So does a part.
abbrev pub PartsOnce : Type 0
PartsOnce = (texts : List (List ℕ)) (source : List ℕ) (label : Label) (Q : Content) (part : Part) (note other : Note) (next more : Content)
    → IsInSession texts Q → IsGood Q → DeclaresPart texts source label Q part note next → DeclaresPart texts source label Q part other more
    → (note ≡ other) × (next ≡ more)

-- With its parts it leaves one list of notes and one next content at most.
abbrev pub CommandsOnce : Type 0
CommandsOnce = (texts : List (List ℕ)) (source : List ℕ) (label : Label) (Q : Content) (command : Command) (notes others : List Note) (next more : Content)
    → IsInSession texts Q → IsGood Q → fold.Declares texts source label Q command notes next → fold.Declares texts source label Q command others more
    → (notes ≡ others) × (next ≡ more)
