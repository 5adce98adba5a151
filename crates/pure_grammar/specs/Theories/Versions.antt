-- Files without the word `version` are read as those of version 1 are.
use Rattle.std.specs.Prelude.{◌≡◌, ◌↔◌, ℕ, false, List}
use Rattle.std.specs.List.{AllByRecursion}
use Rattle.pure_grammar.specs.declared.token.Token.{Token}
use Rattle.pure_grammar.specs.declared.token.TokenKind.{TokenKind}
use Rattle.pure_grammar.specs.declared.lexeme.Keyword.TheVariants as keyword
use Rattle.pure_grammar.specs.Theories.TheoryText.{TheoryText}
use Rattle.pure_grammar.specs.Theories.Lexeme.{Lexeme, lexemes, is_word}
use Rattle.pure_grammar.specs.Theories.Outer.{SpellsTheory, HasSyntaxFault}
use Rattle.pure_grammar.specs.Theories.First as first

-- no item of the list is the word `version`
abbrev pub HasNoVersion : List Lexeme → Type 0
HasNoVersion = AllByRecursion (λ (l : Lexeme). is_word keyword.Version l ≡ false)

-- Such tokens spell the trees that the grammar of version 1 gives them: of version 1 and without haves.
abbrev pub ReadAsFirst : Type 0
ReadAsFirst =
    (source : List ℕ) (tokens : List Token) (theory : TheoryText) → HasNoVersion (lexemes source tokens)
    → SpellsTheory source tokens theory ↔ first.SpellsTheory source tokens theory

-- Their first fault is that of the grammar of version 1, and the same kinds of tokens may stand there.
abbrev pub FaultsAsFirst : Type 0
FaultsAsFirst =
    (source : List ℕ) (tokens : List Token) (at : ℕ) (expected : TokenKind) → HasNoVersion (lexemes source tokens)
    → HasSyntaxFault source tokens at expected ↔ first.HasSyntaxFault source tokens at expected
