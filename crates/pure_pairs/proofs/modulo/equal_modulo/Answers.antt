use Rattle.pure_pairs.proofs.ModuloLaws.{answer_equal, answer_differs}
use Rattle.pure_pairs.proofs.modulo.equal_modulo.Goals as goal

pub returns-in-None : goal.returns-in-None
returns-in-None c = answer_equal c.args.pairs.now c.args.t.now c.args.u.now c.in-None.ensures

pub returns-in-Some : goal.returns-in-Some
returns-in-Some c = answer_differs c.args.pairs.now c.args.t.now c.args.u.now c.in-Some.place c.in-Some.ensures
