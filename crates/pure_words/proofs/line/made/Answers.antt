use Rattle.std.proofs.Common.{◌∙◌}
use Rattle.pure_words.proofs.Builders.{made_is}
use Rattle.pure_words.proofs.line.made.Goals as goal

pub returns-clause-app : goal.returns-clause-app
returns-clause-app c =
    made_is c.args.subcommand c.row_of-row.result c.name_of.result.now _ _ _ c.in_ok-command-2.ensures.app c.in_ok-command.ensures.app c.new.ensures.app
    c.row_of-row.ensures c.name_of.ensures

pub returns-clause-globals : goal.returns-clause-globals
returns-clause-globals c = c.in_ok-command-2.ensures.globals ∙ c.in_ok-command.ensures.globals ∙ c.new.ensures.local
