use Rattle.pure_script.specs.Seen.{seen_command}
use Rattle.pure_declare.proofs.OutcomeSteps.{said-made, said-failed, said-memory}
use Rattle.pure_declare.proofs.command.said.Goals as goal

pub returns-in_err-change-clause-failed : goal.returns-in_err-change-clause-failed
returns-in_err-change-clause-failed c = said-failed c.args.place.now (seen_command c.args.command.now) c.in_err-change.field-0.0 c.from_residual.result c.in_err-change.ensures c.from_residual.ensures.1

pub returns-in_err-declared-clause-failed : goal.returns-in_err-declared-clause-failed
returns-in_err-declared-clause-failed c = said-memory c.args.place.now (seen_command c.args.command.now) c.from_residual-in_err-declared.result c.from_residual-in_err-declared.ensures.1

pub returns-clause-ok : goal.returns-clause-ok
returns-clause-ok c = said-made c.args.place.now (seen_command c.args.command.now) c.in_ok-change.change c.in_ok-declared.declared c.in_ok-change.ensures c.in_ok-declared.ensures
