use Rattle.pure_theory_tables.proofs.AgreementLaws.{alike_class, alike_typ, alike_const, alike_axiom, alike_promise}
use Rattle.pure_theory_tables.proofs.declarations.Declarations.has_alike.Goals as goal

pub returns-in-Class : goal.returns-in-Class
returns-in-Class c = rw c.in-Class.is (alike_class c.args.self.now (record { name = c.in-Class.name; above = c.in-Class.above.value.items }) c.declares_class.result c.declares_class.ensures)

pub returns-in-Con : goal.returns-in-Con
returns-in-Con c = rw c.in-Con.is (alike_typ c.args.self.now c.in-Con.name c.in-Con.params c.declares_typ.result c.declares_typ.ensures)

pub returns-in-Const : goal.returns-in-Const
returns-in-Const c = rw c.in-Const.is (alike_const c.args.self.now c.in-Const.name c.in-Const.typ.value c.declares_const.result c.declares_const.ensures)

pub returns-in-Axiom : goal.returns-in-Axiom
returns-in-Axiom c = rw c.in-Axiom.is (alike_axiom c.args.self.now c.in-Axiom.name c.in-Axiom.prop.value c.declares_fact.result c.declares_fact.ensures)

pub returns-in-Promise : goal.returns-in-Promise
returns-in-Promise c = rw c.in-Promise.is (alike_promise c.args.self.now c.in-Promise.name c.in-Promise.label c.in-Promise.prop.value c.declares_promise.result c.declares_promise.ensures)
