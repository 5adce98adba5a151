use Rattle.pure_declare.proofs.DefinitionSteps.{body-next}
use Rattle.pure_declare.proofs.definition.body_change.Goals as goal

pub returns : goal.returns
returns c = body-next c.args.place.now c.args.names.now.constant c.args.names.now.fact c.args.typ.now c.args.body.now c.in_ok-next.next c.definition_made.result c.in_ok-next.ensures.closed c.in_ok-next.ensures.ok c.definition_made.ensures
