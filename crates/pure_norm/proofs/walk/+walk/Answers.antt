use Rattle.std.proofs.Common.{◌≡◌, ◌∙◌, ap, sym, subst, arith}
use Rattle.std.proofs.lemmas.Result.{err_from_is_err_and}
use Rattle.pure_definitions.specs.Terms.Term.{Term, Bound, App}
use Rattle.pure_norm.specs.Env.{meant, meant_under}
use Rattle.pure_norm.specs.Function.{function_term}
use Rattle.pure_norm.specs.Held.{closure_term}
use Rattle.pure_norm.specs.Pieces.{IsLeaf}
use Rattle.pure_norm.specs.Turn.{head_term}
use Rattle.pure_norm.specs.Walk.{Abstraction, CanWalk}
use Rattle.pure_norm.proofs.MeantLemmas.{meant-app, meant-leaf}
use Rattle.pure_norm.proofs.WalkLemmas.{walked-chain, fails-chain, can_walk-after}
use Rattle.pure_norm.proofs.TurnLemmas.{walked-on, fails-on, can-body, walked-abs, fails-abs, can-function, fails-in_function, can-redex, fewer, redex-walked, redex-fails, can-argument, argument-walked, argument-fails, turns-contracted, walked-same, turn-found, turn-same, fails-same}
use Rattle.pure_norm.proofs.walk.+walk.Goals as goal

pub normal_form-returns-in_err-found-clause-fault : goal.normal_form-returns-in_err-found-clause-fault
normal_form-returns-in_err-found-clause-fault t c =
    let p = err_from_is_err_and c.from_residual.result c.from_residual.ensures.1 in
    rw (p.1, p.2)
    (fails-on c.args.deep c.args.walk.now (meant c.args.scope.now.value c.args.t.now.term.now) c.in_err-found.field-0.0 c.in_err-found.ensures.fault)

pub normal_form-normal_form-requires : goal.normal_form-normal_form-requires
normal_form-normal_form-requires t c =
    let walked = rw c.in-Function.is at c.in_ok-found.ensures.walked in
    let can = can-body c.args.deep c.args.walk.now c.head_of.new.walk (meant c.args.scope.now.value c.args.t.now.term.now) (meant_under 1 c.in-Function.function.scope.value c.in-Function.function.body.term.now) c.in-Function.function.typ.now c.requires.can walked in
    let low = can.shallow in
    let over = rw c.in-Function.is at c.in_ok-found.ensures.over in
    (omega arith, (over, rw c.in_ok-inner-in-Function.ensures can))

pub normal_form-returns-in_err-body-in-Function-clause-fault : goal.normal_form-returns-in_err-body-in-Function-clause-fault
normal_form-returns-in_err-body-in-Function-clause-fault t c =
    let walked = rw c.in-Function.is at c.in_ok-found.ensures.walked in
    let p = err_from_is_err_and c.from_residual-in_err-body-in-Function.result c.from_residual-in_err-body-in-Function.ensures.1 in
    rw (p.1, p.2)
    (fails-abs c.args.deep c.args.walk.now c.head_of.new.walk (meant c.args.scope.now.value c.args.t.now.term.now) (meant_under 1 c.in-Function.function.scope.value c.in-Function.function.body.term.now) c.in-Function.function.typ.now c.requires.can walked c.in_err-body-in-Function.field-0.0
    (rw c.in_ok-inner-in-Function.ensures at c.in_err-body-in-Function.ensures.fault))

pub normal_form-returns-in-Reduced-clause-walked : goal.normal_form-returns-in-Reduced-clause-walked
normal_form-returns-in-Reduced-clause-walked t c =
    walked-on c.args.deep c.args.walk.now c.head_of.new.walk (meant c.args.scope.now.value c.args.t.now.term.now) c.in-Reduced.u.value (rw c.in-Reduced.is at c.in_ok-found.ensures.walked)

pub normal_form-returns-in_ok-abstracted-in-Function-clause-walked : goal.normal_form-returns-in_ok-abstracted-in-Function-clause-walked
normal_form-returns-in_ok-abstracted-in-Function-clause-walked t c =
    let walked = rw c.in-Function.is at c.in_ok-found.ensures.walked in
    rw c.in_ok-abstracted-in-Function.ensures
    (walked-abs c.args.deep c.args.walk.now c.head_of.new.walk (meant c.args.scope.now.value c.args.t.now.term.now) (meant_under 1 c.in-Function.function.scope.value c.in-Function.function.body.term.now) c.in-Function.function.typ.now c.requires.can walked c.normal_form.new.walk c.in_ok-body-in-Function.body.value
    (rw c.in_ok-inner-in-Function.ensures at c.in_ok-body-in-Function.ensures.walked))

pub apply-head_of-requires : goal.apply-head_of-requires
apply-head_of-requires t c =
    let can = can-function c.args.deep c.args.walk.now (meant c.args.scope.now.value c.args.fun.now.term.now) (meant c.args.scope.now.value c.args.arg.now.term.now) c.requires.can in
    let low = can.shallow in
    (omega arith, (c.requires.fun, can))

pub apply-returns-in_err-found-clause-fault : goal.apply-returns-in_err-found-clause-fault
apply-returns-in_err-found-clause-fault t c =
    let p = err_from_is_err_and c.from_residual.result c.from_residual.ensures.1 in
    rw (p.1, p.2)
    (fails-in_function c.args.deep c.args.walk.now (meant c.args.scope.now.value c.args.fun.now.term.now) (meant c.args.scope.now.value c.args.arg.now.term.now) c.requires.can c.in_err-found.field-0.0 c.in_err-found.ensures.fault)

pub apply-contract-requires : goal.apply-contract-requires
apply-contract-requires t c =
    let walked = rw c.in-Function.is at c.in_ok-found.ensures.walked in
    let over = rw c.in-Function.is at c.in_ok-found.ensures.over in
    record {
      body = over;
      arg = c.requires.arg;
      can = can-redex c.args.deep c.args.walk.now (meant c.args.scope.now.value c.args.fun.now.term.now) (meant c.args.scope.now.value c.args.arg.now.term.now) c.requires.can c.head_of.new.walk (function_term c.in-Function.function) walked;
    }

pub apply-returns-in_err-next-in-Function-clause-fault : goal.apply-returns-in_err-next-in-Function-clause-fault
apply-returns-in_err-next-in-Function-clause-fault t c =
    let walked = rw c.in-Function.is at c.in_ok-found.ensures.walked in
    let p = err_from_is_err_and c.from_residual-in_err-next-in-Function.result c.from_residual-in_err-next-in-Function.ensures.1 in
    rw (p.1, p.2)
    (redex-fails c.args.deep c.args.walk.now (meant c.args.scope.now.value c.args.fun.now.term.now) (meant c.args.scope.now.value c.args.arg.now.term.now) c.requires.can c.head_of.new.walk (function_term c.in-Function.function) walked c.in_err-next-in-Function.field-0.0 c.in_err-next-in-Function.ensures.fault)

pub apply-normal_form-requires : goal.apply-normal_form-requires
apply-normal_form-requires t c =
    let walked = rw c.in-Reduced.is at c.in_ok-found.ensures.walked in
    let over = rw c.in-Reduced.is at c.in_ok-found.ensures.over in
    let can = can-argument c.args.deep c.args.walk.now (meant c.args.scope.now.value c.args.fun.now.term.now) (meant c.args.scope.now.value c.args.arg.now.term.now) c.requires.can c.head_of.new.walk c.in-Reduced.front.value walked over.0 over.1 in
    let low = can.shallow in
    (omega arith, (c.requires.arg, can))

pub apply-returns-in_err-back-in-Reduced-clause-fault : goal.apply-returns-in_err-back-in-Reduced-clause-fault
apply-returns-in_err-back-in-Reduced-clause-fault t c =
    let walked = rw c.in-Reduced.is at c.in_ok-found.ensures.walked in
    let over = rw c.in-Reduced.is at c.in_ok-found.ensures.over in
    let p = err_from_is_err_and c.from_residual-in_err-back-in-Reduced.result c.from_residual-in_err-back-in-Reduced.ensures.1 in
    rw (p.1, p.2)
    (argument-fails c.args.deep c.args.walk.now (meant c.args.scope.now.value c.args.fun.now.term.now) (meant c.args.scope.now.value c.args.arg.now.term.now) c.requires.can c.head_of.new.walk c.in-Reduced.front.value walked over.0 over.1 c.in_err-back-in-Reduced.field-0.0 c.in_err-back-in-Reduced.ensures.fault)

pub apply-returns-in_ok-next-in-Function-clause-turned : goal.apply-returns-in_ok-next-in-Function-clause-turned
apply-returns-in_ok-next-in-Function-clause-turned t c =
    let walked = rw c.in-Function.is at c.in_ok-found.ensures.walked in
    let step = c.in_ok-next-in-Function.ensures.contracted in
    let less = fewer c.args.deep c.args.walk.now (meant c.args.scope.now.value c.args.fun.now.term.now) (meant c.args.scope.now.value c.args.arg.now.term.now) c.requires.can c.head_of.new.walk (function_term c.in-Function.function) walked in (
      redex-walked c.args.deep c.args.walk.now (meant c.args.scope.now.value c.args.fun.now.term.now) (meant c.args.scope.now.value c.args.arg.now.term.now) c.requires.can c.head_of.new.walk (function_term c.in-Function.function) walked c.contract.new.walk (closure_term c.in_ok-next-in-Function.next) step,
      turns-contracted c.args.walk.now c.head_of.new.walk c.contract.new.walk c.in_ok-next-in-Function.next.piece.term.now less step.counted,
      c.in_ok-next-in-Function.ensures.piece,
    )

pub apply-returns-in_ok-whole-in-Reduced-clause-turned : goal.apply-returns-in_ok-whole-in-Reduced-clause-turned
apply-returns-in_ok-whole-in-Reduced-clause-turned t c =
    let walked = rw c.in-Reduced.is at c.in_ok-found.ensures.walked in
    let over = rw c.in-Reduced.is at c.in_ok-found.ensures.over in
    rw c.in_ok-whole-in-Reduced.ensures (
      argument-walked c.args.deep c.args.walk.now (meant c.args.scope.now.value c.args.fun.now.term.now) (meant c.args.scope.now.value c.args.arg.now.term.now) c.requires.can c.head_of.new.walk c.in-Reduced.front.value walked over.0 over.1 c.normal_form.new.walk c.in_ok-back-in-Reduced.back.value c.in_ok-back-in-Reduced.ensures.walked,
      ((λ x. x), (over.0, over.1, c.in_ok-back-in-Reduced.ensures.over)),
    )

pub head_of-turn_at-requires : goal.head_of-turn_at-requires
head_of-turn_at-requires t c =
    let can = can_walk-after Abstraction c.args.deep c.args.walk.now c.contractions.walk (meant c.args.scope.now.value c.args.t.now.term.now) (meant c.contractions.place.value c.contractions.piece.term.now) c.requires.can c.contractions.invariant.0 in
    (omega arith, (c.contractions.invariant.1, can))

pub head_of-returns-in_err-turn-clause-fault : goal.head_of-returns-in_err-turn-clause-fault
head_of-returns-in_err-turn-clause-fault t c =
    let p = err_from_is_err_and c.from_residual-in_err-turn.result c.from_residual-in_err-turn.ensures.1 in
    rw (p.1, p.2)
    (fails-chain Abstraction c.args.deep c.args.walk.now c.contractions.walk (meant c.args.scope.now.value c.args.t.now.term.now) (meant c.contractions.place.value c.contractions.piece.term.now) c.in_err-turn.field-0.0 c.contractions.invariant.0 c.in_err-turn.ensures.fault)

pub head_of-returns-in-Over-clause-walked : goal.head_of-returns-in-Over-clause-walked
head_of-returns-in-Over-clause-walked t c =
    let more = rw c.in-Over.is at c.in_ok-turn.ensures.turned in
    walked-chain Abstraction c.args.deep c.args.walk.now c.contractions.walk c.turn_at.new.walk (meant c.args.scope.now.value c.args.t.now.term.now) (meant c.contractions.place.value c.contractions.piece.term.now) (head_term c.in-Over.found) c.contractions.invariant.0 more.0

pub head_of-contractions-preserved : goal.head_of-contractions-preserved
head_of-contractions-preserved t c =
    let more = rw c.in-Next.is at c.in_ok-turn.ensures.turned in
    (walked-chain Abstraction c.args.deep c.args.walk.now c.contractions.walk c.turn_at.new.walk (meant c.args.scope.now.value c.args.t.now.term.now) (meant c.contractions.place.value c.contractions.piece.term.now) (meant c.in-Next.next.scope.value c.in-Next.next.piece.term.now) c.contractions.invariant.0 more.0, more.2)

pub turn_at-returns-in_ok-turn-in-Bound-clause-turned : goal.turn_at-returns-in_ok-turn-in-Bound-clause-turned
turn_at-returns-in_ok-turn-in-Bound-clause-turned t c =
    let e : c.args.t.now.term.now ≡ Bound c.in-Bound.place = rw c.in-Bound.is at c.form_of.ensures in
    let can = subst (λ (v : Term). CanWalk c.args.deep c.args.walk.now (meant c.args.scope.now.value v)) e c.requires.can in
    rw e (turn-found c.args.deep c.in-Bound.place c.args.walk.now (meant c.args.scope.now.value (Bound c.in-Bound.place)) c.in_ok-turn-in-Bound.turn can c.in_ok-turn-in-Bound.ensures)

pub turn_at-apply-requires : goal.turn_at-apply-requires
turn_at-apply-requires t c =
    let form = rw c.in-App.is at c.form_of.ensures in
    let m : meant c.args.scope.now.value c.args.t.now.term.now ≡ App (meant c.args.scope.now.value c.in-App.fun.term.now) (meant c.args.scope.now.value c.in-App.arg.term.now) =
    ap (meant c.args.scope.now.value) form.0 ∙ meant-app 0 c.args.scope.now.value c.in-App.fun.term.now c.in-App.arg.term.now in
    (omega arith, (form.1, (form.2, subst (CanWalk c.args.deep c.args.walk.now) m c.requires.can)))

pub turn_at-returns-in_ok-next-in-App-clause-turned : goal.turn_at-returns-in_ok-next-in-App-clause-turned
turn_at-returns-in_ok-next-in-App-clause-turned t c =
    let form = rw c.in-App.is at c.form_of.ensures in
    let m : meant c.args.scope.now.value c.args.t.now.term.now ≡ App (meant c.args.scope.now.value c.in-App.fun.term.now) (meant c.args.scope.now.value c.in-App.arg.term.now) =
    ap (meant c.args.scope.now.value) form.0 ∙ meant-app 0 c.args.scope.now.value c.in-App.fun.term.now c.in-App.arg.term.now in
    turn-same c.args.deep c.args.walk.now c.apply.new.walk c.args.t.now.term.now (App c.in-App.fun.term.now c.in-App.arg.term.now) (meant c.args.scope.now.value c.args.t.now.term.now) (App (meant c.args.scope.now.value c.in-App.fun.term.now) (meant c.args.scope.now.value c.in-App.arg.term.now)) c.in_ok-next-in-App.next form.0 m
    c.in_ok-next-in-App.ensures.turned

pub turn_at-returns-in_err-next-in-App-clause-fault : goal.turn_at-returns-in_err-next-in-App-clause-fault
turn_at-returns-in_err-next-in-App-clause-fault t c =
    let form = rw c.in-App.is at c.form_of.ensures in
    let m : meant c.args.scope.now.value c.args.t.now.term.now ≡ App (meant c.args.scope.now.value c.in-App.fun.term.now) (meant c.args.scope.now.value c.in-App.arg.term.now) =
    ap (meant c.args.scope.now.value) form.0 ∙ meant-app 0 c.args.scope.now.value c.in-App.fun.term.now c.in-App.arg.term.now in
    let p = err_from_is_err_and c.from_residual-in_err-next-in-App.result c.from_residual-in_err-next-in-App.ensures.1 in
    rw (p.1, p.2)
    (fails-same c.args.deep c.args.walk.now (meant c.args.scope.now.value c.args.t.now.term.now) (App (meant c.args.scope.now.value c.in-App.fun.term.now) (meant c.args.scope.now.value c.in-App.arg.term.now)) c.in_err-next-in-App.field-0.0 m c.in_err-next-in-App.ensures.fault)

pub turn_at-returns-in_ok-head-in-Leaf-clause-turned : goal.turn_at-returns-in_ok-head-in-Leaf-clause-turned
turn_at-returns-in_ok-head-in-Leaf-clause-turned t c =
    let is : IsLeaf c.args.t.now.term.now = rw c.in-Leaf.is at c.form_of.ensures in
    let same = c.in_ok-head-in-Leaf.ensures.found ∙ sym (meant-leaf 0 c.args.scope.now.value c.args.t.now.term.now is) in
    (walked-same c.args.deep c.args.walk.now (meant c.args.scope.now.value c.args.t.now.term.now) (head_term c.in_ok-head-in-Leaf.head) c.requires.can same, c.in_ok-head-in-Leaf.ensures.over)
