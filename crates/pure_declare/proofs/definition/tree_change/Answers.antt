use Rattle.pure_declare.proofs.DefinitionSteps.{tree-none, tree-next}
use Rattle.pure_declare.proofs.definition.tree_change.Goals as goal

pub returns-in-None : goal.returns-in-None
returns-in-None c = tree-none c.args.place.now c.args.names.now.constant c.args.names.now.fact c.args.typ.now c.args.raw.now c.args.base.now (λ r. r.now) c.body_of.result c.in-None.is c.body_of.ensures

pub returns-in-Some : goal.returns-in-Some
returns-in-Some c = tree-next c.args.place.now c.args.names.now.constant c.args.names.now.fact c.args.typ.now c.args.raw.now c.args.base.now (λ r. r.now) c.body_of.result c.in-Some.body c.typed_change.result c.in-Some.is c.body_of.ensures c.typed_change.ensures
