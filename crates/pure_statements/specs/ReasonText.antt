-- The texts of reasons.
use Rattle.std.specs.Prelude.{ℕ, List, [], ◌∷◌, ◌++◌, codes, take}
use Rattle.std.specs.Fmt.{decimal}
use Rattle.pure_print.specs.NameText.{text_of_name}
use Rattle.pure_lex.specs.Lines.{line_behind, column_behind}
use Rattle.pure_statements.specs.declared.reason.Reason.{Reason}
use Rattle.pure_statements.specs.declared.reason.Reason.TheVariants.{Duplicate, UnknownClass, UnknownType, WrongCount, NotCoregular, Syntax, TooLong, UnknownNameAt, UnknownClassAt, WrongCountAt, SchematicAt, IllTyped, TooManySteps, TooLarge, NotDefinition, NotClosed, ExtraTypeVariable}

-- the words of the reason
unfoldable pub reason_words : Reason → List ℕ
reason_words Duplicate = codes "duplicate"
reason_words UnknownClass = codes "unknown class"
reason_words UnknownType = codes "unknown type"
reason_words WrongCount = codes "wrong count"
reason_words (NotCoregular k c d) = codes "not coregular "
reason_words (Syntax at) = codes "syntax at "
reason_words TooLong = codes "too long"
reason_words (UnknownNameAt at) = codes "unknown name at "
reason_words (UnknownClassAt at) = codes "unknown class at "
reason_words (WrongCountAt at) = codes "wrong count at "
reason_words (SchematicAt at) = codes "schematic at "
reason_words (IllTyped at) = codes "ill-typed at "
reason_words TooManySteps = codes "too many beta steps"
reason_words TooLarge = codes "too large"
reason_words NotDefinition = codes "not a definition"
reason_words NotClosed = codes "not closed"
reason_words ExtraTypeVariable = codes "extra type variable"

-- the line and the column of a place in the file, both from 1
abbrev pub line_of : (source : List ℕ) → (at : ℕ) → ℕ
line_of source at = line_behind (take at source)

abbrev pub column_of : (source : List ℕ) → (at : ℕ) → ℕ
column_of source at = column_behind (take at source)

-- both, with a colon between them
abbrev pub place_text : (source : List ℕ) → (at : ℕ) → List ℕ
place_text source at = decimal (line_of source at) ++ (58 ∷ decimal (column_of source at))

-- what stands behind the words: the place, or the names
abbrev pub reason_rest : (texts : List (List ℕ)) → (source : List ℕ) → Reason → List ℕ
reason_rest texts source (NotCoregular k c d) = text_of_name texts k ++ (32 ∷ (text_of_name texts c ++ (32 ∷ text_of_name texts d)))
reason_rest texts source (Syntax at) = place_text source at
reason_rest texts source (UnknownNameAt at) = place_text source at
reason_rest texts source (UnknownClassAt at) = place_text source at
reason_rest texts source (WrongCountAt at) = place_text source at
reason_rest texts source (SchematicAt at) = place_text source at
reason_rest texts source (IllTyped at) = place_text source at
reason_rest texts source _ = []

-- the text of a reason
abbrev pub reason_text : (texts : List (List ℕ)) → (source : List ℕ) → Reason → List ℕ
reason_text texts source reason = reason_words reason ++ reason_rest texts source reason
