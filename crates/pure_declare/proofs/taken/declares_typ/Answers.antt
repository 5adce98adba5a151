use Rattle.pure_declare.proofs.TakenLaws.{typ-yes, typ-no}
use Rattle.pure_declare.proofs.taken.declares_typ.Goals as goal

pub returns-in-None : goal.returns-in-None
returns-in-None c = typ-no c.args.theory.now.declarations c.args.name c.in-None.ensures

pub returns-in-Some : goal.returns-in-Some
returns-in-Some c = typ-yes c.args.theory.now.declarations c.args.name c.in-Some.field-0 c.in-Some.ensures
