-- Which record a text is read as.
use Rattle.std.specs.Prelude.{ℕ, List, length}
use Rattle.pure_grammar.specs.declared.token.Token.{Token}
use Rattle.pure_grammar.specs.Tokens.Spelling.{Spells}
use Rattle.pure_record.specs.Items.{Item}
use Rattle.pure_record.specs.Lines.{Node}
use Rattle.pure_record.specs.Seen.{seen_items, seen_lines}
use Rattle.pure_record.specs.Spelled.{SpellsRecord}
use Rattle.pure_record.specs.declared.record.Record.{Record}

-- The text's tokens spell the record of these names, items and lines.
pub record IsTextOf (text : List ℕ) (texts : List (List ℕ)) (items : List Item) (lines : List Node) : Type 0 where
  pub tokens : List Token
  pub spelled : Spells (length text) tokens text
  pub read : SpellsRecord text tokens texts items lines

-- The text's tokens spell the record.
abbrev pub IsRecordOf : (text : List ℕ) → Record → Type 0
IsRecordOf text read = IsTextOf text read.names (seen_items read.items.items) (seen_lines read.lines.items)
