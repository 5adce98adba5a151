-- A token of the reader, as contracts see it.
use Rattle.std.specs.Prelude.{ℕ, List, Option, Some, None}
use Rattle.std.specs.Borrow.{Bor}
use Rattle.pure_grammar.specs.Theories.TheoryText as tree
use Rattle.pure_grammar.specs.Theories.Lexeme as spec
use Rattle.pure_script.specs.Seen.{span}
use Rattle.pure_script.specs.declared.theory.Span.{Span}
use Rattle.pure_script.specs.declared.lexeme.Lexeme.{Lexeme}
use Rattle.pure_script.specs.declared.lexeme.Lexeme.TheVariants.{Reserved, Signed, Plain, Dotted, Variable, Numeral, Quoted, Other}

abbrev pub seen_span : Option Span → Option tree.Span
seen_span None = None
seen_span (Some s) = Some (span s)

abbrev pub seen_text : Option (Bor (List ℕ)) → Option (List ℕ)
seen_text None = None
seen_text (Some t) = Some t.now

abbrev pub seen_lexeme : Lexeme → spec.Lexeme
seen_lexeme (Reserved word) = spec.Reserved word
seen_lexeme (Signed sign) = spec.Signed sign
seen_lexeme (Plain text at) = spec.Plain text.now (span at)
seen_lexeme (Dotted text at) = spec.Dotted text.now (span at)
seen_lexeme (Variable text at) = spec.Variable text.now (span at)
seen_lexeme (Numeral value) = spec.Numeral value
seen_lexeme (Quoted at) = spec.Quoted (span at)
seen_lexeme (Other kind) = spec.Other kind
