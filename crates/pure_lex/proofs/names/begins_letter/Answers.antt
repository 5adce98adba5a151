use Rattle.std.proofs.Common.{ap, ◌∙◌}
use Rattle.pure_grammar.specs.Tokens.Bytes.{is_letter}
use Rattle.pure_lex.proofs.MarkFronts.{letter-get}
use Rattle.pure_lex.proofs.names.begins_letter.Goals as goal

pub returns : goal.returns
returns c = c.is_letter.ensures ∙ (ap is_letter c.byte_at.ensures ∙ letter-get c.args.text.now)
