use Rattle.pure_theory_tables.proofs.PlaceLaws.{nothing_at, entry_at}
use Rattle.pure_theory_tables.proofs.declarations.Declarations.pointer_at.Goals as goal

pub returns-in-None : goal.returns-in-None
returns-in-None c = rw (← c.self.view_is) (nothing_at c.self.inside.list _ c.args.place c.self.invariant.listed c.in-None.ensures)

pub returns-in-Some : goal.returns-in-Some
returns-in-Some c = rw (← c.self.view_is) (entry_at c.self.inside.list _ c.args.place _ c.self.invariant.listed c.in-Some.ensures)
