use Rattle.pure_declare.proofs.DefinitionSteps.{term-failed, term-next}
use Rattle.pure_declare.proofs.definition.term_change.Goals as goal

pub returns-in_err-body : goal.returns-in_err-body
returns-in_err-body c = term-failed c.args.place.now c.args.names.now.constant c.args.names.now.fact c.args.typ.now c.args.term.now c.in_err-body.field-0.0 c.from_residual.result c.in_err-body.ensures.answer c.from_residual.ensures.1

pub body_change-requires-clause-certified : goal.body_change-requires-clause-certified
body_change-requires-clause-certified c = c.in_ok-body.ensures.certified c.args.place.now.content c.args.typ.now c.requires.certified

pub returns : goal.returns
returns c = term-next c.args.place.now c.args.names.now.constant c.args.names.now.fact c.args.typ.now c.args.term.now c.in_ok-body.body c.body_change.result c.in_ok-body.ensures.answer c.body_change.ensures
