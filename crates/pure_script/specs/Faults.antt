-- What a fault of syntax says of its tokens.
use Rattle.std.specs.Prelude.{ℕ, List}
use Rattle.pure_grammar.specs.declared.token.Token.{Token}
use Rattle.pure_grammar.specs.Theories.Outer.{HasSyntaxFault}
use Rattle.pure_script.specs.declared.theory.ScriptFault.{ScriptFault}
use Rattle.pure_script.specs.declared.theory.ScriptFault.TheVariants.{Syntax, Memory}

-- The first fault of the tokens stands where the answer says. Want of memory says nothing.
abbrev pub IsFaultOf : List ℕ → List Token → ScriptFault → Type 0
IsFaultOf source tokens (Syntax at expected) = HasSyntaxFault source tokens at expected
IsFaultOf source tokens Memory = Unit {0}
