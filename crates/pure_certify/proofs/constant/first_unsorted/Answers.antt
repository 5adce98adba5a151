use Rattle.pure_text.proofs.AnswerLaws.{test_fails}
use Rattle.pure_certify.proofs.MatchLemmas.{unsorted-at, sorted-next}
use Rattle.pure_certify.proofs.constant.first_unsorted.Goals as goal

pub returns-then-not-is_of_sort-clause-first : goal.returns-then-not-is_of_sort-clause-first
returns-then-not-is_of_sort-clause-first c =
    let fails = test_fails _ c.is_of_sort.result c.is_of_sort.ensures c.if-not-is_of_sort.true in
    rw (← c.binds-bind-items.ensures.are) (unsorted-at c.args.order.now c.binds-bind-items.result.now c.loop-bind.bind-index c.bind-item.result c.bind.inside.name c.bind.inside.index c.bind.inside.sort c.bind.inside.image
    c.bind.view_is c.loop-bind-test.true c.bind-item.is c.loop-bind.invariant fails)

pub loop-bind-preserved : goal.loop-bind-preserved
loop-bind-preserved c =
    sorted-next c.args.order.now c.binds-bind-items.result.now c.loop-bind.bind-index c.bind-item.result c.bind.inside.name c.bind.inside.index c.bind.inside.sort c.bind.inside.image
    c.bind.view_is c.loop-bind-test.true c.bind-item.is c.loop-bind.invariant (c.is_of_sort.ensures.0 c.if-not-is_of_sort.false)
