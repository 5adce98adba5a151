use Rattle.pure_theory.proofs.theory.Theory.decl_at.Goals as goal

pub returns : goal.returns
returns c = rw (← c.self.view_is) c.decl_at.ensures
