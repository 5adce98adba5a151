use Rattle.pure_unify_rows.proofs.asked.is_typed.Goals as goal

pub returns-in-Ok : goal.returns-in-Ok
returns-in-Ok c = (c.in-Ok.typ, c.in-Ok.ensures)
