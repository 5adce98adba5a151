use Rattle.pure_declare.proofs.DefinitionSteps.{definition-refused}
use Rattle.pure_declare.proofs.definition.with_definition.Goals as goal

pub returns-in-Err-clause-failed : goal.returns-in-Err-clause-failed
returns-in-Err-clause-failed c =
    definition-refused c.args.place.now c.args.names.now.constant c.args.names.now.fact c.args.typ.now c.args.body.now c.requires.new c.theory.result.now c.in-Err.fault c.failed_declaration.result
    c.theory.ensures.value c.in-Err.ensures.fault c.failed_declaration.ensures
