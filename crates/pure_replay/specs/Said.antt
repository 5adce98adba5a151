-- The line that is written of the text of a record.
use Rattle.std.specs.Prelude.{◌≢◌, ℕ, Bool, true, false, List, [], ◌∷◌, ◌++◌, length, take, Ok, Err, codes}
use Rattle.std.specs.Fmt.{decimal}
use Rattle.pure_definitions.specs.Terms.Term.{Term}
use Rattle.pure_grammar.specs.Tokens.Spelling.{Spells}
use Rattle.pure_grammar.specs.declared.token.Token.{Token}
use Rattle.pure_lex.specs.Faults as lexing
use Rattle.pure_lex.specs.Lines.{line_behind, column_behind}
use Rattle.pure_lex.specs.declared.reading.LexFault.TheVariants.{At}
use Rattle.pure_print.specs.TermText.{term_text}
use Rattle.pure_record.specs.Items.{Item}
use Rattle.pure_record.specs.Lines.{Node}
use Rattle.pure_record.specs.Spelled.{SpellsRecord, IsFaultOf}
use Rattle.pure_record.specs.declared.record.RecordFault.{RecordFault}
use Rattle.pure_record.specs.declared.record.RecordFault.TheVariants as reading
use Rattle.pure_replay.specs.Replayed.{IsReplayed}
use Rattle.pure_replay.specs.declared.fault.ReplayFault.{ReplayFault}
use Rattle.pure_replay.specs.declared.fault.ReplayFault.TheVariants as fault

unfoldable pub yes_words : List ℕ
yes_words = codes "yes: "

unfoldable pub no_words : List ℕ
no_words = codes "no: "

unfoldable pub syntax_words : List ℕ
syntax_words = codes "syntax at "

unfoldable pub too_long_words : List ℕ
too_long_words = codes "too long at "

unfoldable pub content_words : List ℕ
content_words = codes "content "

unfoldable pub line_words : List ℕ
line_words = codes "line "

unfoldable pub big_words : List ℕ
big_words = codes "big "

unfoldable pub empty_words : List ℕ
empty_words = codes "empty"

unfoldable pub open_words : List ℕ
open_words = codes "open"

-- the lines of a yes and of a no, each with its line feed
abbrev pub yes_line : (prop : List ℕ) → List ℕ
yes_line prop = yes_words ++ (prop ++ 10 ∷ [])

abbrev pub no_line : (why : List ℕ) → List ℕ
no_line why = no_words ++ (why ++ 10 ∷ [])

-- words, and the line and the column of a place of the source
abbrev pub placed : (words source : List ℕ) → (at : ℕ) → List ℕ
placed words source at = words ++ (decimal (line_behind (take at source)) ++ (58 ∷ decimal (column_behind (take at source))))

-- why tokens spell no record; and why a record isn't replayed
abbrev pub reading_words : (source : List ℕ) → RecordFault → List ℕ
reading_words source (reading.TooLong at) = placed too_long_words source at
reading_words source (reading.Syntax at) = placed syntax_words source at
reading_words source reading.Memory = []

abbrev pub replay_words : ReplayFault → List ℕ
replay_words (fault.Content item) = content_words ++ decimal item
replay_words (fault.Line line) = line_words ++ decimal line
replay_words (fault.Big line) = big_words ++ decimal line
replay_words fault.Empty = empty_words
replay_words fault.Open = open_words
replay_words fault.Memory = []

-- The line and whether it is a yes are what there is to be said of the source: it has no tokens, they spell no record, the record isn't replayed, or it is.
pub data IsSaid (source : List ℕ) : (text : List ℕ) → (clean : Bool) → Type 0 where
  untokened : (at : ℕ) → lexing.IsFaultOf (length source) source (At at) → IsSaid source (no_line (placed syntax_words source at)) false
  unread : (tokens : List Token) → Spells (length source) tokens source → (f : RecordFault) → f ≢ reading.Memory → IsFaultOf source tokens f → IsSaid source (no_line (reading_words source f)) false
  refused : (tokens : List Token) → Spells (length source) tokens source → (texts : List (List ℕ)) (items : List Item) (lines : List Node) → SpellsRecord source tokens texts items lines
      → (f : ReplayFault) → f ≢ fault.Memory → IsReplayed items lines (Err f) → IsSaid source (no_line (replay_words f)) false
  replayed : (tokens : List Token) → Spells (length source) tokens source → (texts : List (List ℕ)) (items : List Item) (lines : List Node) → SpellsRecord source tokens texts items lines
      → (A : Term) → IsReplayed items lines (Ok A) → IsSaid source (yes_line (term_text texts A)) true
