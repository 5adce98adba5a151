use Rattle.std.proofs.Common.{map, take, subst}
use Rattle.pure_text.specs.Lists.{IsIn, Each}
use Rattle.pure_promise_fates.specs.Entries.{Entry}
use Rattle.pure_promise.specs.Seen.{reported}
use Rattle.pure_promise_rows.proofs.OrderLemmas.{no_entries, one_turn}
use Rattle.pure_promise_rows.proofs.GroundLemmas.{shown_rests}
use Rattle.pure_promise_rows.proofs.order.are_in_order.Goals as goal

pub loop-place-init : goal.loop-place-init
loop-place-init c = no_entries

pub loop-place-preserved : goal.loop-place-preserved
loop-place-preserved c = one_turn reported c.args.lemmas.now c.loop-place.place c.index-lemmas-place.result c.loop-place-test.true c.index-lemmas-place.is c.loop-place.invariant
    (c.are_before.ensures c.if-not-are_before.false)
    (λ rests shown. subst (Each (λ k. IsIn k (map Entry.label (map reported (take c.loop-place.place c.args.lemmas.now))))) (shown_rests c.index-lemmas-place.result.own c.rests.result.now rests c.rests.ensures shown) (c.has_all.ensures c.if-not-has_all.false))
