use Rattle.std.proofs.Common.{refl}
use Rattle.pure_definitions.specs.Declarations.Decl.{ConDecl, ConstDecl}
use Rattle.pure_theory_tables.specs.Facts.{fact_decl}
use Rattle.pure_theory_tables.proofs.FactLaws.{axiom_named, promise_named}
use Rattle.pure_theory_tables.proofs.IndexLaws.{other_added}
use Rattle.pure_theory_tables.proofs.TableLaws.{fresh}
use Rattle.pure_theory_tables.proofs.index.Index.with_entry.Goals as goal

pub with_typ-requires : goal.with_typ-requires
with_typ-requires c = fresh ConDecl c.args.self.typs c.requires.0 c.in-Con.name c.requires.1.typs (λ n m. (rw c.in-Con.is at c.requires.2) (ConDecl c.in-Con.name n) m refl)

pub with_const-requires : goal.with_const-requires
with_const-requires c = fresh ConstDecl c.args.self.consts c.requires.0 c.in-Const.name c.requires.1.consts (λ T m. (rw c.in-Const.is at c.requires.2) (ConstDecl c.in-Const.name T) m refl)

pub with_axiom-requires : goal.with_axiom-requires
with_axiom-requires c = fresh fact_decl c.args.self.facts c.requires.0 c.in-Axiom.name c.requires.1.facts (λ s m. (rw c.in-Axiom.is at c.requires.2) (fact_decl c.in-Axiom.name s) m (axiom_named c.in-Axiom.name c.in-Axiom.prop.value s))

pub with_promise-requires : goal.with_promise-requires
with_promise-requires c = fresh fact_decl c.args.self.facts c.requires.0 c.in-Promise.name c.requires.1.facts (λ s m. (rw c.in-Promise.is at c.requires.2) (fact_decl c.in-Promise.name s) m (promise_named c.in-Promise.name c.in-Promise.label c.in-Promise.prop.value s))

pub returns-in-Class : goal.returns-in-Class
returns-in-Class c ds h = rw c.in-Class.is (other_added c.args.self c.args.self (λ x l k. k) refl refl refl ds _ tt h)

pub returns-in-Arity : goal.returns-in-Arity
returns-in-Arity c ds h = rw c.in-Arity.is (other_added c.args.self c.args.self (λ x l k. k) refl refl refl ds _ tt h)
