use Rattle.std.proofs.Common.{◌∙◌}
use Rattle.clap.specs.Simple.{app_of}
use Rattle.clap.specs.Walk.{rule_of}
use Rattle.pure_words.specs.Line.{cancel_rule, fail_fast_rule, jobs_rule}
use Rattle.pure_words.proofs.Builders.{three}
use Rattle.pure_words.proofs.line.with_options.Goals as goal

pub returns-clause-app : goal.returns-clause-app
returns-clause-app c =
    three c.args.row.jobs c.args.row.cancel c.args.row.fail_fast (rule_of c.jobs.result) (rule_of c.cancel.result) (rule_of c.fail_fast.result) jobs_rule cancel_rule
    fail_fast_rule (app_of c.args.command) _ _ _ (c.in_ok-command.ensures.app c.jobs.ensures.here) c.jobs.ensures.rule
    (c.in_ok-command-2.ensures.app c.cancel.ensures.here) c.cancel.ensures.rule (c.in_ok-command-3.ensures.app c.fail_fast.ensures.here) c.fail_fast.ensures.rule

pub returns-clause-globals : goal.returns-clause-globals
returns-clause-globals c =
    c.in_ok-command-3.ensures.globals c.fail_fast.ensures.here ∙ c.in_ok-command-2.ensures.globals c.cancel.ensures.here ∙ c.in_ok-command.ensures.globals c.jobs.ensures.here
