-- What commands leave where haves are passed over: each one note.
use Rattle.std.specs.Prelude.{◌≡◌, ℕ, ◌+◌, List, [], ◌∷◌, Result, Ok, Err}
use Rattle.pure_definitions.specs.Names.{Label}
use Rattle.pure_grammar.specs.Theories.TheoryText.{Command}
use Rattle.pure_logic.specs.Content.{Content}
use Rattle.pure_statements.specs.declared.reason.Reason.{Reason}
use Rattle.pure_statements.specs.Rows.{refused_row}
use Rattle.pure_declare.specs.Notes.{Note, Said, Outcome}
use Rattle.pure_declare.specs.Commands.{Place, IsOwnText, IsOutcome}

-- what comes of a command: a refused one leaves its row, and the content as it is
abbrev pub outcome_of : Place → Command → Result Outcome Reason → Outcome
outcome_of P command (Ok outcome) = outcome
outcome_of P command (Err reason) = record { note = Said (refused_row P.texts P.source P.theory command reason); next = P.content }

-- The command, with this label in a theory that has this text, does or is refused so.
pub record IsDeclaredAs (P : Place) (command : Command) (outcome : Outcome) : Type 0 where
  pub answer : Result Outcome Reason
  pub is : IsOutcome P command answer
  pub comes : outcome ≡ outcome_of P command answer

-- Over the content Q the command leaves this note and the next content.
pub record Declares (texts : List (List ℕ)) (source : List ℕ) (label : Label) (Q : Content) (command : Command) (note : Note) (next : Content) : Type 0 where
  pub theory : List ℕ
  pub own : IsOwnText texts Q theory
  pub declares : IsDeclaredAs (record { texts = texts; source = source; label = label; theory = theory; content = Q }) command (record { note = note; next = next })

-- The commands of the theory with this index, from the one at this place on, leave these notes, and the last content.
abbrev pub AreDeclared : (texts : List (List ℕ)) → (source : List ℕ) → (index place : ℕ) → Content → List Command → List Note → (last : Content) → Type 0
AreDeclared texts source index place Q [] notes last = (notes ≡ []) × (last ≡ Q)
AreDeclared texts source index place Q (command ∷ commands) notes last =
    (note : Note) × (next : Content) × (more : List Note)
    × Declares texts source (record { theory = index; command = place; part = 0 }) Q command note next
    × AreDeclared texts source index (place + 1) next commands more last
    × (notes ≡ note ∷ more)
