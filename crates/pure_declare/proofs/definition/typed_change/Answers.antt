use Rattle.pure_declare.proofs.DefinitionSteps.{typed-failed, typed-next}
use Rattle.pure_declare.proofs.definition.typed_change.Goals as goal

pub returns-in_err-term : goal.returns-in_err-term
returns-in_err-term c = typed-failed c.args.place.now c.args.names.now.constant c.args.names.now.fact c.args.typ.now c.args.raw.now c.in_err-term.field-0.0 c.from_residual.result c.in_err-term.ensures.answer c.from_residual.ensures.1

pub returns : goal.returns
returns c = typed-next c.args.place.now c.args.names.now.constant c.args.names.now.fact c.args.typ.now c.args.raw.now c.in_ok-term.term c.term_change.result c.in_ok-term.ensures.answer c.term_change.ensures
