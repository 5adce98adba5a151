-- The search through the tokens of a source.
use Rattle.std.specs.Prelude.{ℕ, ◌+◌, List, drop, length, Option, if◌then◌else◌}
use Rattle.pure_grammar.specs.declared.token.Token.{Token}
use Rattle.pure_grammar.specs.Theories.Lexeme.{lexeme, ident_in}
use Rattle.pure_grammar.specs.Theories.Outer.{place_of}
use Rattle.pure_places.specs.Parts.{CommandParts, Import, Parts}
use Rattle.pure_places.specs.Proofs.{Stage, Proofs, proofs_in}
use Rattle.pure_places.specs.Marks.{mark_of, first_mark, is_version, commands_in, import_at, imports_in}
use Rattle.pure_places.specs.declared.mark.Mark.{Mark}
use Rattle.pure_places.specs.declared.mark.Before.{Before}
use Rattle.pure_places.specs.declared.mark.Before.TheVariants as before

abbrev pub token_mark : (source : List ℕ) → Token → Mark
token_mark source t = mark_of (lexeme source t)

abbrev pub token_ident : (source : List ℕ) → Token → Option (List ℕ)
token_ident source t = ident_in (lexeme source t)

-- a token's place
abbrev pub token_place : Token → List Token → ℕ
token_place t ts = t.from

abbrev pub found_proofs : (source : List ℕ) → Stage ℕ → Proofs ℕ → List Token → Proofs ℕ
found_proofs source = proofs_in (token_mark source) token_place

abbrev pub found_commands : (source : List ℕ) → Before → List Token → List (CommandParts ℕ)
found_commands source = commands_in (token_mark source) token_place

abbrev pub found_imports : (source : List ℕ) → List Token → List (Import ℕ)
found_imports source = imports_in (token_mark source) (token_ident source) token_place

-- the import that a token is, if it is one
abbrev pub import_of : (source : List ℕ) → Token → List (Import ℕ)
import_of source t = import_at (token_ident source t) t.from

-- how many tokens stand before the header's name: the word `theory`, and before it the version, where one is written
abbrev pub tokens_before : (source : List ℕ) → List Token → ℕ
tokens_before source tokens = if is_version (first_mark (token_mark source) tokens) then 3 else 1

-- what is found among the tokens of a source: the header's name, behind it the imports, and the commands
abbrev pub found : (source : List ℕ) → List Token → Parts ℕ
found source tokens = record {
  name = place_of tokens (length source) (tokens_before source tokens);
  imports = found_imports source (drop (tokens_before source tokens + 1) tokens);
  commands = found_commands source before.Other tokens;
}
