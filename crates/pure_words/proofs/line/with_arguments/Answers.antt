use Rattle.std.proofs.Common.{◌∙◌, codes, nat_lt}
use Rattle.clap.specs.Simple.{app_of}
use Rattle.clap.specs.Walk.{rule_of}
use Rattle.pure_words.specs.Line.{argument_rule}
use Rattle.pure_words.proofs.Builders.{three}
use Rattle.pure_words.proofs.line.with_arguments.Goals as goal

pub returns-clause-app : goal.returns-clause-app
returns-clause-app c =
    three (nat_lt 0 c.args.count) (nat_lt 1 c.args.count) (nat_lt 2 c.args.count) (rule_of c.argument.result) (rule_of c.argument-2.result) (rule_of c.argument-3.result)
    (argument_rule (codes "first")) (argument_rule (codes "second")) (argument_rule (codes "third")) (app_of c.args.command) _ _ _
    (c.in_ok-command.ensures.app c.argument.ensures.here) c.argument.ensures.rule (c.in_ok-command-2.ensures.app c.argument-2.ensures.here) c.argument-2.ensures.rule
    (c.in_ok-command-3.ensures.app c.argument-3.ensures.here) c.argument-3.ensures.rule

pub returns-clause-globals : goal.returns-clause-globals
returns-clause-globals c =
    c.in_ok-command-3.ensures.globals c.argument-3.ensures.here ∙ c.in_ok-command-2.ensures.globals c.argument-2.ensures.here
    ∙ c.in_ok-command.ensures.globals c.argument.ensures.here
