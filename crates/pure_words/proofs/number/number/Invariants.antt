use Rattle.std.proofs.Common.{◌≡◌, ◌<◌, ◌^◌, true, take, drop}
use Rattle.std.specs.List.{list_all}
use Rattle.pure_grammar.specs.Tokens.Bytes.{is_digit}
use Rattle.pure_grammar.specs.Theories.Lexeme.{value_behind}
use Rattle.pure_words.proofs.number.number.Given as goal

abbrev pub invariant-loop-digit : goal.invariant-loop-digit
invariant-loop-digit l = record {
  value : value_behind l.value (drop l.digit-index l.text) ≡ value_behind 0 l.text;
  digits : list_all is_digit (take l.digit-index l.text) ≡ true;
  bound : l.value < 10 ^ l.digit-index;
}
