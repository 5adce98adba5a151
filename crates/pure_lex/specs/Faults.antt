-- What a fault of the tokens says of its source.
use Rattle.std.specs.Prelude.{ℕ, List}
use Rattle.pure_grammar.specs.Tokens.Spelling.{HasFault}
use Rattle.pure_lex.specs.declared.reading.LexFault.{LexFault}
use Rattle.pure_lex.specs.declared.reading.LexFault.TheVariants.{At, Memory}

-- The first fault of the text stands where the answer says. Want of memory says nothing.
abbrev pub IsFaultOf : ℕ → List ℕ → LexFault → Type 0
IsFaultOf to bytes (At place) = HasFault to bytes place
IsFaultOf to bytes Memory = Unit {0}
