use Rattle.pure_promise_fates_rows.specs.Given.{seen_lemma}
use Rattle.pure_promise_fates_rows.proofs.OrderLemmas.{no_entries, one_turn, shown_rests}
use Rattle.pure_promise_fates_rows.proofs.order.are_in_order.Goals as goal

pub loop-place-init : goal.loop-place-init
loop-place-init c = no_entries

pub loop-place-preserved : goal.loop-place-preserved
loop-place-preserved c = one_turn seen_lemma c.args.lemmas.now c.loop-place.place c.index-lemmas-place.result c.loop-place-test.true c.index-lemmas-place.is c.loop-place.invariant
    (c.are_before.ensures c.if-not-are_before.false)
    (λ rests shown. rw (← shown_rests c.index-lemmas-place.result.own c.index-lemmas-place.result.rests.items rests shown, ← c.deref.ensures.value) (c.has_all.ensures c.if-not-has_all.false))
