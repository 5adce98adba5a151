use Rattle.pure_theory.proofs.theory.Theory.promise_prop.Goals as goal

pub returns : goal.returns
returns c = rw (← c.self.view_is) c.promise_prop.ensures
