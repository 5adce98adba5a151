use Rattle.pure_theory.proofs.cthm.Cthm.theorem_is_derivable.Goals as goal

pub returns : goal.returns
returns c = rw (← c.self.view_is) c.self.invariant
