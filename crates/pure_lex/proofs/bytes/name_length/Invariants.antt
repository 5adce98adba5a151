use Rattle.std.proofs.Common.{◌≡◌, take, true}
use Rattle.std.specs.List.{list_all}
use Rattle.pure_grammar.specs.Tokens.Bytes.{is_name_byte}
use Rattle.pure_lex.proofs.bytes.name_length.Given as goal

abbrev pub invariant-loop-i : goal.invariant-loop-i
invariant-loop-i l = list_all is_name_byte (take l.i l.text) ≡ true
