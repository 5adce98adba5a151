use Rattle.pure_words.proofs.Builders.{made_added}
use Rattle.pure_words.proofs.line.with_subcommand.Goals as goal

pub returns : goal.returns
returns c = made_added _ _ _ c.args.subcommand c.in_ok-command.ensures c.in_ok-inner.ensures.app c.in_ok-inner.ensures.globals
