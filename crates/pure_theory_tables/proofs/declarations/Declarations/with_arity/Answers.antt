use Rattle.pure_theory_tables.proofs.declarations.Declarations.with_arity.Goals as goal

pub grown-requires : goal.grown-requires
grown-requires c = rw (← c.self.view_is) (c.in_ok-index.ensures.other _ _ tt c.self.invariant.indexed)
