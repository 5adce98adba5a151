use Rattle.std.proofs.Common.{◌≡◌, ℕ, List, Some, None, subst}
use Rattle.std.specs.BTreeMap.{get}
use Rattle.std.specs.Prelude.{Option}
use Rattle.pure_definitions.specs.Types.Typ.{Typ}
use Rattle.pure_definitions.specs.Models.Comparison.{typ_cmp}
use Rattle.pure_tunify.specs.Asking.{asked_variable, IsAllAsked}
use Rattle.pure_tunify.proofs.AskingLaws.{found_none, found_some, no_more_asked, more_asked, union_of_asked}
use Rattle.pure_tunify.proofs.asking.more_asked.Goals as goal

pub returns-in-None : goal.returns-in-None
returns-in-None c all are = found_none c.args.order.now all c.args.asked.now (get typ_cmp c.args.known.now (asked_variable c.args.asked.now)) (are c.args.asked.now)
    (subst (λ (v : Typ). ◌≡◌ {A = Option (List ℕ)} None (get typ_cmp c.args.known.now v)) c.in_ok-typ.ensures c.in-None.ensures.value)

pub returns-then-sort_below : goal.returns-then-sort_below
returns-then-sort_below c all are =
    let known : IsAllAsked c.args.order.now all c.args.asked.now c.in-Some.all.now = found_some c.args.order.now all c.args.asked.now (get typ_cmp c.args.known.now (asked_variable c.args.asked.now)) c.in-Some.all.now (are c.args.asked.now)
    (subst (λ (v : Typ). Some c.in-Some.all.now ≡ get typ_cmp c.args.known.now v) c.in_ok-typ.ensures c.in-Some.ensures.value) in
    no_more_asked c.args.order.now all c.args.asked.now c.in-Some.all.now known c.sort_below.result c.sort_below.ensures c.if-sort_below.true

pub returns : goal.returns
returns c all are =
    let known : IsAllAsked c.args.order.now all c.args.asked.now c.in-Some.all.now = found_some c.args.order.now all c.args.asked.now (get typ_cmp c.args.known.now (asked_variable c.args.asked.now)) c.in-Some.all.now (are c.args.asked.now)
    (subst (λ (v : Typ). Some c.in-Some.all.now ≡ get typ_cmp c.args.known.now v) c.in_ok-typ.ensures c.in-Some.ensures.value) in (
      more_asked c.args.order.now all c.args.asked.now c.in-Some.all.now known c.sort_below.result c.sort_below.ensures c.if-sort_below.false,
      union_of_asked c.args.order.now all c.args.asked.now c.in-Some.all.now known c.in_ok-union-in-Some.union c.in_ok-union-in-Some.ensures.below c.in_ok-union-in-Some.ensures.least c.classes.ensures.ascend,
    )
