use Rattle.pure_definitions.specs.Declarations.Decl.{ConDecl}
use Rattle.pure_theory_tables.proofs.TableLaws.{fresh}
use Rattle.pure_theory_tables.proofs.declarations.Declarations.with_typ.Goals as goal

pub with_typ-requires : goal.with_typ-requires
with_typ-requires c = fresh ConDecl c.self.inside.index.typs _ c.args.name c.self.invariant.indexed.typs (rw (← c.self.view_is) at c.requires)

pub grown-requires : goal.grown-requires
grown-requires c = rw (← c.self.view_is) (c.in_ok-index.ensures _ c.self.invariant.indexed)
