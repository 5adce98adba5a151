use Rattle.pure_declare.proofs.TakenLaws.{fact-yes, fact-no}
use Rattle.pure_declare.proofs.taken.declares_fact.Goals as goal

pub returns-in-None : goal.returns-in-None
returns-in-None c = fact-no c.args.theory.now.declarations c.args.name c.in-None.ensures

pub returns-in-Some : goal.returns-in-Some
returns-in-Some c = fact-yes c.args.theory.now.declarations c.args.name c.in-Some.field-0.now c.in-Some.ensures
