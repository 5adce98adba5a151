use Rattle.std.proofs.Common.{refl}
use Rattle.pure_theory.proofs.tables.TheoryBase.axiom_prop.Goals as goal

pub returns-in-None : goal.returns-in-None
returns-in-None c = rw (← c.self.view_is) c.in-None.ensures

pub returns-in-Some : goal.returns-in-Some
returns-in-Some c = rw (← c.self.view_is) ((c.in-Some.ensures c.in-Some.prop.now).1 refl)
