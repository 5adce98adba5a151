use Rattle.pure_declare.specs.Commands.{defining}
use Rattle.pure_declare.proofs.DefinitionSteps.{axiom-declared, made-change, failed-change}
use Rattle.pure_declare.proofs.definition.definition_made.Goals as goal

pub axiom_tail-requires : goal.axiom_tail-requires
axiom_tail-requires c =
    let given = c.requires in
    (defining c.args.names.now.constant given.0 given.1, axiom-declared c.args.place.now c.args.names.now.constant c.args.names.now.fact c.args.next given.0 given.1 given.2)

pub returns-in_err-tail : goal.returns-in_err-tail
returns-in_err-tail c T b next =
    failed-change c.args.place.now c.args.names.now.constant c.args.names.now.fact c.args.next T b next c.in_err-tail.field-0.0 c.from_residual.result c.in_err-tail.ensures c.from_residual.ensures.1

pub returns : goal.returns
returns c T b next = made-change c.args.place.now c.args.names.now.constant c.args.names.now.fact c.args.next T b next c.in_ok-tail.tail c.saying.result c.in_ok-tail.ensures c.saying.ensures
