use Rattle.pure_script.specs.Seen.{seen_command}
use Rattle.pure_declare.proofs.OutcomeSteps.{outcome-said, outcome-fails}
use Rattle.pure_declare.proofs.command.outcome_of.Goals as goal

pub returns-clause-ok : goal.returns-clause-ok
returns-clause-ok c = outcome-said c.args.place.now (seen_command c.args.command.now) c.said.result c.said.ensures.kind c.said.ensures.ok

pub returns-clause-failed : goal.returns-clause-failed
returns-clause-failed c = outcome-fails c.args.place.now (seen_command c.args.command.now) c.said.result c.said.ensures.kind c.said.ensures.failed
