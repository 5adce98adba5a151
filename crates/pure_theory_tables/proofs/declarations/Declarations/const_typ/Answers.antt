use Rattle.pure_definitions.specs.Declarations.Decl.{ConstDecl}
use Rattle.pure_theory_tables.proofs.TableLaws.{absent, present}
use Rattle.pure_theory_tables.proofs.declarations.Declarations.const_typ.Goals as goal

pub returns-in-None : goal.returns-in-None
returns-in-None c = rw (← c.self.view_is, ← c.name.view_is) (absent ConstDecl c.self.inside.index.consts _ c.name.inside.0 c.self.invariant.indexed.consts c.in-None.ensures)

pub returns-in-Some : goal.returns-in-Some
returns-in-Some c = rw (← c.self.view_is, ← c.name.view_is) (present ConstDecl c.self.inside.index.consts _ c.name.inside.0 _ c.self.invariant.indexed.consts c.in-Some.ensures)
