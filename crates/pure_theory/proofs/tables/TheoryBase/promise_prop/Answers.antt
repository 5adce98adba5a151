use Rattle.pure_theory.proofs.tables.TheoryBase.promise_prop.Goals as goal

pub returns-in-None : goal.returns-in-None
returns-in-None c = rw (← c.self.view_is) (λ A h. c.in-None.ensures h.0 A h.1)

pub returns-in-Some : goal.returns-in-Some
returns-in-Some c = rw (← c.self.view_is) c.in-Some.ensures
