-- The laws of these definitions.
use Rattle.std.specs.Prelude.{◌≡◌, ℕ, List}
use Rattle.pure_grammar.specs.declared.token.Token.{Token}
use Rattle.pure_grammar.specs.declared.token.TokenKind.{TokenKind}
use Rattle.pure_grammar.specs.Theories.TheoryText.{TheoryText}
use Rattle.pure_grammar.specs.Theories.Outer.{SpellsTheory, HasSyntaxFault}

abbrev pub TheoryOrFault : Type 0
TheoryOrFault =
    (source : List ℕ) (tokens : List Token) (theory : TheoryText) (at : ℕ) (expected : TokenKind)
    → SpellsTheory source tokens theory → HasSyntaxFault source tokens at expected → ⊥

abbrev pub OneFaultPlace : Type 0
OneFaultPlace =
    (source : List ℕ) (tokens : List Token) (first second : ℕ) (one other : TokenKind)
    → HasSyntaxFault source tokens first one → HasSyntaxFault source tokens second other → first ≡ second
