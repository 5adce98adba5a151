use Rattle.pure_definitions.specs.Declarations.Decl.{ConstDecl}
use Rattle.pure_theory_tables.proofs.TableLaws.{fresh}
use Rattle.pure_theory_tables.proofs.declarations.Declarations.with_const.Goals as goal

pub with_const-requires : goal.with_const-requires
with_const-requires c = fresh ConstDecl c.self.inside.index.consts _ c.args.name c.self.invariant.indexed.consts (rw (← c.self.view_is) at c.requires)

pub grown-requires : goal.grown-requires
grown-requires c = rw (← c.self.view_is, ← c.in_ok-same.ensures) (c.in_ok-index.ensures _ c.self.invariant.indexed)
