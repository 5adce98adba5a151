use Rattle.pure_theory.proofs.theory.Theory.const_typ.Goals as goal

pub returns : goal.returns
returns c = rw (← c.self.view_is) c.const_typ.ensures
