use Rattle.pure_theory_tables.specs.Facts.{fact_decl}
use Rattle.pure_theory_tables.proofs.TableLaws.{fresh}
use Rattle.pure_theory_tables.proofs.declarations.Declarations.with_promise.Goals as goal

pub with_promise-requires : goal.with_promise-requires
with_promise-requires c = fresh fact_decl c.self.inside.index.facts _ c.args.name c.self.invariant.indexed.facts (rw (← c.self.view_is) at c.requires)

pub grown-requires : goal.grown-requires
grown-requires c = rw (← c.self.view_is, ← c.in_ok-same.ensures) (c.in_ok-index.ensures _ c.self.invariant.indexed)
