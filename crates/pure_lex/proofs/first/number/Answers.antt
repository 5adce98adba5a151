use Rattle.pure_lex.proofs.OtherFronts.{number-taken}
use Rattle.pure_lex.proofs.first.number.Goals as goal

pub returns : goal.returns
returns c = number-taken c.args.text.now _ c.requires c.digit_count.ensures
