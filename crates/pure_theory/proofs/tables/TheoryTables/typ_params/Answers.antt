use Rattle.pure_theory.proofs.tables.TheoryTables.typ_params.Goals as goal

pub returns : goal.returns
returns c = rw (← c.self.view_is) c.typ_params.ensures
