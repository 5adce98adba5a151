-- What contracts see of the places that were found.
use Rattle.std.specs.Prelude.{◌≡◌, ℕ, List, ◌++◌, length, map}
use Rattle.pure_grammar.specs.declared.token.Token.{Token}
use Rattle.pure_grammar.specs.Tokens.Spelling.{Spells}
use Rattle.pure_grammar.specs.Theories.Lexeme.{lexemes}
use Rattle.pure_grammar.specs.Theories.Phrase.{FilePhrase}
use Rattle.pure_grammar.specs.Theories.PhraseText.{file_text}
use Rattle.pure_places.specs.Parts as parts
use Rattle.pure_places.specs.Parts.{Parts, places_of}
use Rattle.pure_places.specs.Found.{found_commands}
use Rattle.pure_places.specs.declared.mark.Before.{Before}
use Rattle.pure_places.specs.declared.parts.Part.{Part}
use Rattle.pure_places.specs.declared.parts.CommandParts.{CommandParts}
use Rattle.pure_places.specs.declared.parts.Import.{Import}
use Rattle.pure_places.specs.declared.parts.Places.{Places}

abbrev pub seen_part : Part → parts.Part ℕ
seen_part p = record { name = p.name; steps = p.steps.items }

abbrev pub seen_command : CommandParts → parts.CommandParts ℕ
seen_command c = record { haves = map seen_part c.haves.items; own = seen_part c.own }

abbrev pub seen_import : Import → parts.Import ℕ
seen_import i = record { theory = i.theory; at = i.at }

abbrev pub seen_places : Places → Parts ℕ
seen_places p = record { name = p.name; imports = map seen_import p.imports.items; commands = map seen_command p.commands.items }

-- the commands that were found so far, and those that are still to be found among these tokens
abbrev pub found_with : (source : List ℕ) → List CommandParts → Before → List Token → List (parts.CommandParts ℕ)
found_with source found before rest = map seen_command found ++ found_commands source before rest

-- The source is a text of the grammar, with these tokens and this phrase.
pub record IsReadAs (source : List ℕ) (tokens : List Token) (f : FilePhrase) : Type 0 where
  pub tokens_are : Spells (length source) tokens source
  pub spelled : file_text f ≡ lexemes source tokens

-- These are the places of the parts of the theory that the source is.
abbrev pub ArePlaces : (source : List ℕ) → Parts ℕ → Type 0
ArePlaces source places = (tokens : List Token) (f : FilePhrase) → IsReadAs source tokens f → places ≡ places_of source tokens f
