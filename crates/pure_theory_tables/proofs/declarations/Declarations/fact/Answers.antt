use Rattle.pure_theory_tables.specs.Facts.{fact_decl}
use Rattle.pure_theory_tables.proofs.TableLaws.{absent, present}
use Rattle.pure_theory_tables.proofs.declarations.Declarations.fact.Goals as goal

pub returns-in-None : goal.returns-in-None
returns-in-None c = rw (← c.self.view_is, ← c.name.view_is) (absent fact_decl c.self.inside.index.facts _ c.name.inside.0 c.self.invariant.indexed.facts c.in-None.ensures)

pub returns-in-Some : goal.returns-in-Some
returns-in-Some c = rw (← c.self.view_is, ← c.name.view_is) (present fact_decl c.self.inside.index.facts _ c.name.inside.0 _ c.self.invariant.indexed.facts c.in-Some.ensures)
