use Rattle.std.proofs.Common.{refl}
use Rattle.pure_text.proofs.AnswerLaws.{test_fails}
use Rattle.pure_theory.proofs.DefinitionLaws.{definition_is_new, const_taken, fact_taken}
use Rattle.pure_theory.proofs.theory.Theory.check_definition.Goals as goal

pub returns-in-Some-clause-fault : goal.returns-in-Some-clause-fault
returns-in-Some-clause-fault c = const_taken c.args.self.now.declarations c.args.name c.args.fact c.args.typ.now c.in-Some.field-0.now c.args.body.now ((c.in-Some.ensures c.in-Some.field-0.now).1 refl)

pub returns-in-Some-fact-clause-fault : goal.returns-in-Some-fact-clause-fault
returns-in-Some-fact-clause-fault c = fact_taken c.args.self.now.declarations c.args.name c.args.fact c.args.typ.now c.args.body.now c.in-Some-fact.field-0.now ((c.in-Some-fact.ensures c.in-Some-fact.field-0.now).1 refl)

pub returns-then-has_variable-clause-fault : goal.returns-then-has_variable-clause-fault
returns-then-has_variable-clause-fault c = ((definition_is_new c.args.self.now.declarations c.args.name c.args.fact c.args.typ.now c.args.body.now c.in_default.ensures c.in_default-fact.ensures), c.has_variable.ensures.0 c.if-has_variable.true)

pub returns-then-has_extra_typ-clause-fault : goal.returns-then-has_extra_typ-clause-fault
returns-then-has_extra_typ-clause-fault c = ((definition_is_new c.args.self.now.declarations c.args.name c.args.fact c.args.typ.now c.args.body.now c.in_default.ensures c.in_default-fact.ensures), test_fails _ c.has_variable.result c.has_variable.ensures c.if-has_variable.false, c.has_extra_typ.ensures.0 c.if-has_extra_typ.true)

pub returns-clause-new : goal.returns-clause-new
returns-clause-new c = (definition_is_new c.args.self.now.declarations c.args.name c.args.fact c.args.typ.now c.args.body.now c.in_default.ensures c.in_default-fact.ensures)
