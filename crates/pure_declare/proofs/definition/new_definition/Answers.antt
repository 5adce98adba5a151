use Rattle.pure_script.specs.Seen.{span}
use Rattle.pure_declare.proofs.DefinitionSteps.{definition-failed, definition-next}
use Rattle.pure_declare.proofs.definition.new_definition.Goals as goal

pub returns-in_err-written : goal.returns-in_err-written
returns-in_err-written c = definition-failed c.args.place.now c.args.base.now c.args.names.now.constant c.args.names.now.fact (span c.args.typ) (span c.args.text) c.in_err-written.field-0.0 c.from_residual.result c.in_err-written.ensures.answer c.from_residual.ensures.1

pub returns : goal.returns
returns c = definition-next c.args.place.now c.args.base.now c.args.names.now.constant c.args.names.now.fact (span c.args.typ) (span c.args.text) c.in_ok-written.written c.text_change.result c.in_ok-written.ensures.answer c.text_change.ensures
