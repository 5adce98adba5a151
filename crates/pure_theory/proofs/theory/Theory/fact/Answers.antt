use Rattle.pure_theory.proofs.theory.Theory.fact.Goals as goal

pub returns : goal.returns
returns c = rw (← c.self.view_is) c.fact.ensures
