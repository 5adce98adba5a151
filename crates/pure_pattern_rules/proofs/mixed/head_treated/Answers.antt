use Rattle.std.proofs.Common.{◌≡◌, refl}
use Rattle.pure_definitions.specs.Terms.Term.{Const, Free}
use Rattle.pure_pattern_laws.specs.Treatment.{IsWritten}
use Rattle.pure_pattern_rules.proofs.HeadLaws.{written_typed, written_treated}
use Rattle.pure_pattern_rules.proofs.mixed.head_treated.Goals as goal

pub imitated-requires-clause-typed : goal.imitated-requires-clause-typed
imitated-requires-clause-typed c =
    let is : c.args.head.now ≡ Const c.in-Const.name c.in-Const.typ = rw (← c.head.view_is, c.in-Const.is) refl in
    written_typed c.args.index c.args.variable.now.typ c.args.variable.now.places.items c.args.head.now (Const c.in-Const.name c.in-Const.typ) c.in_ok-function-in-Const.function.value c.in-Const.typ is c.in_ok-function-in-Const.ensures IsWritten.constant
    c.requires.imitable

pub imitated-requires-in-Free-clause-typed : goal.imitated-requires-in-Free-clause-typed
imitated-requires-in-Free-clause-typed c =
    let is : c.args.head.now ≡ Free c.in-Free.name c.in-Free.typ = rw (← c.head.view_is, c.in-Free.is) refl in
    written_typed c.args.index c.args.variable.now.typ c.args.variable.now.places.items c.args.head.now (Free c.in-Free.name c.in-Free.typ) c.in_ok-function-in-Free.function.value c.in-Free.typ is c.in_ok-function-in-Free.ensures IsWritten.fixed
    c.requires.imitable

pub returns-in_ok-function-in-Const-clause-treated : goal.returns-in_ok-function-in-Const-clause-treated
returns-in_ok-function-in-Const-clause-treated c =
    let is : c.args.head.now ≡ Const c.in-Const.name c.in-Const.typ = rw (← c.head.view_is, c.in-Const.is) refl in
    written_treated c.args.index c.args.variable.now.name c.args.variable.now.index c.args.variable.now.typ c.args.variable.now.places.items c.args.head.now (Const c.in-Const.name c.in-Const.typ) c.in_ok-function-in-Const.function.value c.in-Const.typ
    c.imitated.result is c.in_ok-function-in-Const.ensures IsWritten.constant c.imitated.ensures.treated

pub returns-in_ok-function-in-Free-clause-treated : goal.returns-in_ok-function-in-Free-clause-treated
returns-in_ok-function-in-Free-clause-treated c =
    let is : c.args.head.now ≡ Free c.in-Free.name c.in-Free.typ = rw (← c.head.view_is, c.in-Free.is) refl in
    written_treated c.args.index c.args.variable.now.name c.args.variable.now.index c.args.variable.now.typ c.args.variable.now.places.items c.args.head.now (Free c.in-Free.name c.in-Free.typ) c.in_ok-function-in-Free.function.value c.in-Free.typ
    c.imitated-in-Free.result is c.in_ok-function-in-Free.ensures IsWritten.fixed c.imitated-in-Free.ensures.treated
