use Rattle.std.proofs.Common.{◌≡◌, ◌≤◌, refl, ap, arith}
use Rattle.pure_definitions.specs.Terms.Term.{Free, Abs, App, term_depth}
use Rattle.pure_definitions.specs.Terms.Measures.{term_index_above}
use Rattle.pure_term.specs.Scope.{scope_typs}
use Rattle.pure_norm.proofs.InstanceLaws.{below_stays, fixed-other, fixed-fun, fixed-free, own-function, own-argument, own-body, own-front, found-itself, front-itself, can-body-instance, found-abstraction, can-function-instance, can-argument-instance, found-front, found-of_front}
use Rattle.pure_norm.proofs.instance.+instance.Goals as goal

pub front_of-returns-then-index_above_of-least : goal.front_of-returns-then-index_above_of-least
front_of-returns-then-index_above_of-least t c =
    let low : term_index_above c.args.t.now.value ≤ c.args.least = rw (← c.deref-whole.ensures) (omega arith) in
    front-itself c.args.map.now (scope_typs c.args.scope.now) c.args.deep c.args.walk.now c.args.t.now.value c.in_ok-same.same.value c.in_ok-same.ensures (below_stays c.args.map.now c.args.least c.requires.least c.args.t.now.value low)
    (fixed-other c.args.map.now c.args.t.now.value c.requires.fixed) c.requires.own c.requires.can

pub front_of-front_of-requires : goal.front_of-front_of-requires
front_of-front_of-requires t c =
    let is : c.args.t.now.value ≡ App c.in-App.fun.value c.in-App.arg.value = rw (← c.deref-whole.ensures, ← c.whole.view_is, c.in-App.is) refl in
    let down = ap term_depth is in (
      omega arith,
      (
        c.requires.least,
        (own-function (scope_typs c.args.scope.now) c.args.t.now.value c.in-App.fun.value c.in-App.arg.value is c.requires.own, (fixed-fun c.args.map.now c.args.t.now.value c.in-App.fun.value c.in-App.arg.value is c.requires.fixed, can-function-instance c.args.map.now (scope_typs c.args.scope.now) c.args.deep c.args.walk.now c.args.t.now.value c.in-App.fun.value c.in-App.arg.value is c.requires.can)),
      ),
    )

pub front_of-long_of-requires : goal.front_of-long_of-requires
front_of-long_of-requires t c =
    let is : c.args.t.now.value ≡ App c.in-App.fun.value c.in-App.arg.value = rw (← c.deref-whole.ensures, ← c.whole.view_is, c.in-App.is) refl in
    let down = ap term_depth is in (
      omega arith,
      (
        c.requires.least,
        (
          own-argument (scope_typs c.args.scope.now) c.args.t.now.value c.in-App.fun.value c.in-App.arg.value is c.requires.own,
          can-argument-instance c.args.map.now (scope_typs c.args.scope.now) c.args.deep c.args.walk.now c.args.t.now.value c.in-App.fun.value c.in-App.arg.value is c.requires.can c.front_of.new.walk c.in_ok-fun-in-App.fun.value c.in_ok-fun-in-App.ensures,
        ),
      ),
    )

pub front_of-returns-in_ok-try_clone-in-Free : goal.front_of-returns-in_ok-try_clone-in-Free
front_of-returns-in_ok-try_clone-in-Free t c =
    let is : c.args.t.now.value ≡ Free c.in-Free.name c.in-Free.typ = rw (← c.deref-whole.ensures, ← c.whole.view_is, c.in-Free.is) refl in
    front-itself c.args.map.now (scope_typs c.args.scope.now) c.args.deep c.args.walk.now c.args.t.now.value c.in_ok-try_clone-in-Free.field-0.value c.in_ok-try_clone-in-Free.ensures (fixed-free c.args.map.now c.args.t.now.value c.in-Free.name c.in-Free.typ is)
    (fixed-other c.args.map.now c.args.t.now.value c.requires.fixed) c.requires.own c.requires.can

pub front_of-returns-in_ok-done-in-App : goal.front_of-returns-in_ok-done-in-App
front_of-returns-in_ok-done-in-App t c =
    let is : c.args.t.now.value ≡ App c.in-App.fun.value c.in-App.arg.value = rw (← c.deref-whole.ensures, ← c.whole.view_is, c.in-App.is) refl in
    found-front c.args.map.now (scope_typs c.args.scope.now) c.args.deep c.args.walk.now c.args.t.now.value c.in-App.fun.value c.in-App.arg.value is c.requires.can c.front_of.new.walk c.in_ok-fun-in-App.fun.value c.in_ok-fun-in-App.ensures c.long_of.new.walk c.in_ok-arg-in-App.arg.value c.in_ok-done-in-App.done.value c.in_ok-arg-in-App.ensures c.in_ok-done-in-App.ensures

pub long_of-returns-then-index_above_of-least : goal.long_of-returns-then-index_above_of-least
long_of-returns-then-index_above_of-least t c =
    let low : term_index_above c.args.t.now.value ≤ c.args.least = rw (← c.deref-whole.ensures) (omega arith) in
    found-itself c.args.map.now (scope_typs c.args.scope.now) c.args.deep c.args.walk.now c.args.t.now.value c.in_ok-same.same.value c.in_ok-same.ensures (below_stays c.args.map.now c.args.least c.requires.least c.args.t.now.value low) c.requires.own c.requires.can

pub long_of-long_of-requires : goal.long_of-long_of-requires
long_of-long_of-requires t c =
    let is : c.args.t.now.value ≡ Abs c.in-Abs.typ c.in-Abs.body.value = rw (← c.deref-whole.ensures, ← c.whole.view_is, c.in-Abs.is) refl in
    let down = ap term_depth is in (
      omega arith,
      (
        c.requires.least,
        (own-body (scope_typs c.args.scope.now) c.args.t.now.value c.in-Abs.body.value c.in-Abs.typ is c.requires.own, can-body-instance c.args.map.now c.args.deep c.args.walk.now c.args.t.now.value c.in-Abs.body.value c.in-Abs.typ is c.requires.can),
      ),
    )

pub long_of-front_of-requires : goal.long_of-front_of-requires
long_of-front_of-requires t c =
    let is : c.args.t.now.value ≡ App c.in-App.fun.value c.in-App.arg.value = rw (← c.deref-whole.ensures, ← c.whole.view_is, c.in-App.is) refl in
    let fixed = rw (c.if-not-has_fixed_front.false, c.deref-whole.ensures) at c.has_fixed_front.ensures in
    (omega arith, (c.requires.least, (own-front (scope_typs c.args.scope.now) c.args.t.now.value c.in-App.fun.value c.in-App.arg.value is c.requires.own, (fixed, c.requires.can))))

pub long_of-returns-in_ok-done-in-Abs : goal.long_of-returns-in_ok-done-in-Abs
long_of-returns-in_ok-done-in-Abs t c =
    let is : c.args.t.now.value ≡ Abs c.in-Abs.typ c.in-Abs.body.value = rw (← c.deref-whole.ensures, ← c.whole.view_is, c.in-Abs.is) refl in
    found-abstraction c.args.map.now (scope_typs c.args.scope.now) c.args.deep c.args.walk.now c.long_of.new.walk c.args.t.now.value c.in-Abs.body.value c.in_ok-done-in-Abs.done.value c.in_ok-body-in-Abs.body.value c.in-Abs.typ is c.requires.can c.in_ok-body-in-Abs.ensures c.in_ok-done-in-Abs.ensures

pub long_of-returns-in_ok-front-in-App : goal.long_of-returns-in_ok-front-in-App
long_of-returns-in_ok-front-in-App t c =
    let is : c.args.t.now.value ≡ App c.in-App.fun.value c.in-App.arg.value = rw (← c.deref-whole.ensures, ← c.whole.view_is, c.in-App.is) refl in
    found-of_front c.args.map.now (scope_typs c.args.scope.now) c.args.deep c.args.walk.now c.front_of.new.walk c.args.t.now.value c.in-App.fun.value c.in-App.arg.value c.in_ok-front-in-App.front.value is c.requires.own c.in_ok-front-in-App.ensures
