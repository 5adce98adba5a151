use Rattle.pure_replay.proofs.tables.DeclaredTables.const_typ.Goals as goal

pub returns : goal.returns
returns c = rw (← c.self.view_is) c.const_typ.ensures
