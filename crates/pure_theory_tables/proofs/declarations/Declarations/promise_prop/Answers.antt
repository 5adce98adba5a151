use Rattle.pure_theory_tables.proofs.declarations.Declarations.promise_prop.Goals as goal

pub returns : goal.returns
returns c = rw (← c.self.view_is) (c.promise_prop.ensures _ c.self.invariant.indexed)
