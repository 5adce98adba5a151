-- Laws of the search.
use Rattle.std.specs.Prelude.{◌≡◌, ℕ, List, length}
use Rattle.pure_grammar.specs.declared.token.Token.{Token}
use Rattle.pure_grammar.specs.Theories.Lexeme.{lexemes}
use Rattle.pure_grammar.specs.Theories.Phrase.{FilePhrase}
use Rattle.pure_grammar.specs.Theories.PhraseText.{file_text}
use Rattle.pure_grammar.specs.Theories.PhraseTree.{file_tree}
use Rattle.pure_places.specs.Parts.{file_parts, places_of}
use Rattle.pure_places.specs.Found.{found}

-- Among tokens that spell a theory just its parts are found, each at its place.
abbrev pub FindsParts : Type 0
FindsParts = (source : List ℕ) (tokens : List Token) (f : FilePhrase) → file_text f ≡ lexemes source tokens → found source tokens ≡ places_of source tokens f

-- There are as many commands as the tree of the theory has.
abbrev pub AsManyCommands : Type 0
AsManyCommands = (f : FilePhrase) → length (file_parts f).commands ≡ length (file_tree f).commands
