use Rattle.std.proofs.Common.{refl}
use Rattle.pure_text.proofs.AnswerLaws.{yes_as, no_as}
use Rattle.pure_theory.proofs.LookupLaws.{declared_fact, undeclared_fact}
use Rattle.pure_theory.proofs.theory.Theory.declares_fact.Goals as goal

pub returns-in-None : goal.returns-in-None
returns-in-None c = no_as _ (undeclared_fact c.args.self.now.declarations c.args.name c.in-None.ensures)

pub returns-in-Some : goal.returns-in-Some
returns-in-Some c = yes_as _ (declared_fact c.args.self.now.declarations c.args.name c.in-Some.field-0.now ((c.in-Some.ensures c.in-Some.field-0.now).1 refl))
