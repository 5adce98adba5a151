use Rattle.std.proofs.Common.{◌≡◌, take, true}
use Rattle.std.specs.List.{list_all}
use Rattle.pure_grammar.specs.Tokens.Token.{is_quotable}
use Rattle.pure_lex.proofs.bytes.quotable_length.Given as goal

abbrev pub invariant-loop-i : goal.invariant-loop-i
invariant-loop-i l = list_all is_quotable (take l.i l.text) ≡ true
