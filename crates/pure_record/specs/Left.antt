-- What a reader of lexemes has still to read.
use Rattle.std.specs.Prelude.{List, drop}
use Rattle.pure_record.specs.Lines.{Node}
use Rattle.pure_record.specs.Grammar.{IsWord, IsNode}
use Rattle.pure_record.specs.declared.lexeme.Lexeme.{Lexeme}
use Rattle.pure_record.specs.declared.lexeme.Word.{Word}
use Rattle.pure_record.specs.declared.reader.Reader.{Reader}

abbrev pub left : Reader → List Lexeme
left reader = drop reader.at reader.lexemes.items

-- The lexemes are those of the line behind its word.
abbrev pub IsBehindWord : Word → Node → List Lexeme → List Lexeme → Type 0
IsBehindWord w node ls rest = (whole : List Lexeme) → IsWord w whole ls → IsNode node whole rest
