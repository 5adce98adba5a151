use Rattle.pure_declare.proofs.TakenLaws.{const-yes, const-no}
use Rattle.pure_declare.proofs.taken.declares_const.Goals as goal

pub returns-in-None : goal.returns-in-None
returns-in-None c = const-no c.args.theory.now.declarations c.args.name c.in-None.ensures

pub returns-in-Some : goal.returns-in-Some
returns-in-Some c = const-yes c.args.theory.now.declarations c.args.name c.in-Some.field-0.now c.in-Some.ensures
