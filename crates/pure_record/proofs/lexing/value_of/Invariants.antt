use Rattle.std.proofs.Common.{◌≡◌, drop}
use Rattle.pure_grammar.specs.Theories.Lexeme.{value_behind}
use Rattle.pure_record.proofs.lexing.value_of.Given as goal

abbrev pub invariant-loop-digit : goal.invariant-loop-digit
invariant-loop-digit l = value_behind l.value (drop l.digit-index l.digits) ≡ value_behind 0 l.digits
