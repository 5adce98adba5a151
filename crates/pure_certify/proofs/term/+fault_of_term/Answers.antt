use Rattle.std.proofs.Common.{◌≡◌, refl}
use Rattle.pure_definitions.specs.Terms.Term.{Abs, App}
use Rattle.pure_certify.specs.Parts.{typ_parts, term_parts}
use Rattle.pure_certify.proofs.PartLemmas.{fault_left}
use Rattle.pure_certify.proofs.TermLemmas.{body-answer, argument-answer}
use Rattle.pure_certify.proofs.term.+fault_of_term.Goals as goal

pub returns-in-Some : goal.returns-in-Some
returns-in-Some g t c =
    let abs : c.args.t.now ≡ Abs c.in-Abs.typ c.in-Abs.body.value = rw (← c.t.view_is, c.in-Abs.is) refl in
    rw abs (fault_left (g.D.Tables.declarations c.args.tables.now) (typ_parts c.in-Abs.typ) (term_parts c.in-Abs.body.value) c.in-Some.fault c.in-Some.ensures)

pub returns-in-None : goal.returns-in-None
returns-in-None g t c =
    let abs : c.args.t.now ≡ Abs c.in-Abs.typ c.deref.result.now = rw (← c.t.view_is, c.in-Abs.is, c.deref.ensures) refl in
    body-answer (g.D.Tables.declarations c.args.tables.now) c.args.t.now c.in-Abs.typ c.deref.result.now c.fault_of_term.result abs c.in-None.ensures c.fault_of_term.ensures

pub returns-in-Some-2 : goal.returns-in-Some-2
returns-in-Some-2 g t c =
    let app : c.args.t.now ≡ App c.deref-in-App.result.now c.in-App.arg.value = rw (← c.t.view_is, c.in-App.is, c.deref-in-App.ensures) refl in
    let function = rw c.in-Some-2.is at c.in_ok-fault-in-App.ensures in
    rw app (fault_left (g.D.Tables.declarations c.args.tables.now) (term_parts c.deref-in-App.result.now) (term_parts c.in-App.arg.value) c.in-Some-2.fault function)

pub returns-in-None-2 : goal.returns-in-None-2
returns-in-None-2 g t c =
    let app : c.args.t.now ≡ App c.deref-in-App.result.now c.deref-in-None-2.result.now = rw (← c.t.view_is, c.in-App.is, c.deref-in-App.ensures, c.deref-in-None-2.ensures) refl in
    let function = rw c.in-None-2.is at c.in_ok-fault-in-App.ensures in
    argument-answer (g.D.Tables.declarations c.args.tables.now) c.args.t.now c.deref-in-App.result.now c.deref-in-None-2.result.now c.fault_of_term-in-None-2.result app function c.fault_of_term-in-None-2.ensures
