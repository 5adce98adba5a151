use Rattle.std.proofs.Common.{ap, ◌∙◌}
use Rattle.pure_grammar.specs.Tokens.Bytes.{is_digit}
use Rattle.pure_lex.proofs.OtherFronts.{digit-get}
use Rattle.pure_lex.proofs.first.begins_digit.Goals as goal

pub returns : goal.returns
returns c = c.is_digit.ensures ∙ (ap is_digit c.byte_at.ensures ∙ digit-get c.args.text.now)
