use Rattle.std.proofs.Common.{refl}
use Rattle.pure_text.proofs.AnswerLaws.{no_as}
use Rattle.pure_definitions.specs.Declarations.Decl.{ConDecl, ConstDecl, AxiomDecl, PromiseDecl}
use Rattle.pure_theory_tables.proofs.SameLaws.{has_number, has_typ, has_term}
use Rattle.pure_theory_tables.proofs.declarations.Declarations.has.Goals as goal

pub returns-in-None : goal.returns-in-None
returns-in-None c = rw c.in-Con.is (no_as _ (c.in-None.ensures c.in-Con.params))

pub returns-in-Some : goal.returns-in-Some
returns-in-Some c = rw c.in-Con.is (has_number (ConDecl c.in-Con.name) c.args.self.now c.in-Some.own c.in-Con.params _ c.in-Some.ensures refl)

pub returns-in-None-const_typ : goal.returns-in-None-const_typ
returns-in-None-const_typ c = rw c.in-Const.is (no_as _ (c.in-None-const_typ.ensures c.in-Const.typ.value))

pub returns-in-Some-const_typ : goal.returns-in-Some-const_typ
returns-in-Some-const_typ c = rw c.in-Const.is (has_typ (ConstDecl c.in-Const.name) c.args.self.now c.in-Some-const_typ.own.now c.in-Const.typ.value c.eq.result c.in-Some-const_typ.ensures (rw c.deref.ensures at c.eq.ensures))

pub returns-in-None-axiom_prop : goal.returns-in-None-axiom_prop
returns-in-None-axiom_prop c = rw c.in-Axiom.is (no_as _ (c.in-None-axiom_prop.ensures c.in-Axiom.prop.value))

pub returns-in-Some-axiom_prop : goal.returns-in-Some-axiom_prop
returns-in-Some-axiom_prop c =
    rw c.in-Axiom.is (has_term (AxiomDecl c.in-Axiom.name) c.args.self.now c.in-Some-axiom_prop.own.now c.in-Axiom.prop.value c.eq-in-Some-axiom_prop.result c.in-Some-axiom_prop.ensures (rw c.deref-in-Some-axiom_prop.ensures at c.eq-in-Some-axiom_prop.ensures))

pub returns-in-None-promise_of : goal.returns-in-None-promise_of
returns-in-None-promise_of c = rw c.in-Promise.is (no_as _ (c.in-None-promise_of.ensures c.in-Promise.prop.value))

pub returns-in-Some-promise_of : goal.returns-in-Some-promise_of
returns-in-Some-promise_of c =
    rw c.in-Promise.is (has_term (PromiseDecl c.in-Promise.name c.in-Promise.label) c.args.self.now c.in-Some-promise_of.own.now c.in-Promise.prop.value c.eq-in-Some-promise_of.result c.in-Some-promise_of.ensures (rw c.deref-in-Some-promise_of.ensures at c.eq-in-Some-promise_of.ensures))
