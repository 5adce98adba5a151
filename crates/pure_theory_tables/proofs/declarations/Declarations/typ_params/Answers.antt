use Rattle.pure_definitions.specs.Declarations.Decl.{ConDecl}
use Rattle.pure_theory_tables.proofs.TableLaws.{absent, present}
use Rattle.pure_theory_tables.proofs.declarations.Declarations.typ_params.Goals as goal

pub returns-in-None : goal.returns-in-None
returns-in-None c = rw (← c.self.view_is, ← c.name.view_is) (absent ConDecl c.self.inside.index.typs _ c.name.inside.0 c.self.invariant.indexed.typs c.in-None.ensures)

pub returns-in-Some : goal.returns-in-Some
returns-in-Some c = rw (← c.self.view_is, ← c.name.view_is) (present ConDecl c.self.inside.index.typs _ c.name.inside.0 _ c.self.invariant.indexed.typs c.in-Some.ensures)
