-- A command has an outcome.
use Rattle.std.specs.Prelude.{ℕ, List}
use Rattle.pure_definitions.specs.Names.{Label}
use Rattle.pure_grammar.specs.Theories.TheoryText.{Command}
use Rattle.pure_logic.specs.Content.{Content}
use Rattle.pure_declare.specs.Notes.{Note}
use Rattle.pure_declare.specs.First.{Declares}
use Rattle.pure_declare.specs.Fold as fold
use Rattle.pure_declare.specs.Premises.{HasNames, HasRanges, IsGiven}
use Rattle.pure_declare.specs.Good.{IsGood}

-- Over a good content of a session, with names for what it declares and ranges that lie in the source, a command leaves some note and some next content.
abbrev pub DeclaresSomehow : Type 0
DeclaresSomehow = (texts : List (List ℕ)) (source : List ℕ) (label : Label) (Q : Content) (command : Command)
    → HasNames texts Q command → HasRanges source command → IsGiven texts source Q label → IsGood Q
    → (note : Note) × (next : Content) × Declares texts source label Q command note next

-- With its parts it leaves some notes and some next content.
abbrev pub CommandsSomehow : Type 0
CommandsSomehow = (texts : List (List ℕ)) (source : List ℕ) (label : Label) (Q : Content) (command : Command)
    → HasNames texts Q command → HasRanges source command → IsGiven texts source Q label → IsGood Q
    → (notes : List Note) × (next : Content) × fold.Declares texts source label Q command notes next
