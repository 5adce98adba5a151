use Rattle.pure_theory.proofs.theory.Theory.axiom_prop.Goals as goal

pub returns : goal.returns
returns c = rw (← c.self.view_is) c.axiom_prop.ensures
