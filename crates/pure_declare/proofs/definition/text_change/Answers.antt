use Rattle.pure_script.specs.Seen.{span}
use Rattle.pure_declare.proofs.DefinitionSteps.{text-failed, text-next}
use Rattle.pure_declare.proofs.definition.text_change.Goals as goal

pub returns-in_err-raw : goal.returns-in_err-raw
returns-in_err-raw c = text-failed c.args.place.now c.args.names.now.constant c.args.names.now.fact c.args.typ.now c.args.base.now (span c.args.text) c.in_err-raw.field-0.0 c.from_residual.result c.in_err-raw.ensures c.from_residual.ensures.1

pub returns : goal.returns
returns c = text-next c.args.place.now c.args.names.now.constant c.args.names.now.fact c.args.typ.now c.args.base.now (span c.args.text) c.in_ok-raw.raw c.tree_change.result c.in_ok-raw.ensures c.tree_change.ensures
