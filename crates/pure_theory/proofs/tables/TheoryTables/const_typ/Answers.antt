use Rattle.pure_theory.proofs.tables.TheoryTables.const_typ.Goals as goal

pub returns : goal.returns
returns c = rw (← c.self.view_is) c.const_typ.ensures
