use Rattle.std.proofs.Common.{◌≡◌, drop}
use Rattle.pure_grammar.specs.Tokens.Bytes.{behind, is_name_byte}
use Rattle.pure_words.proofs.name.is_short_spelling.Given as goal

abbrev pub invariant-loop-b : goal.invariant-loop-b
invariant-loop-b l = behind is_name_byte (drop l.b-index l.text) ≡ behind is_name_byte l.text
