use Rattle.std.proofs.Common.{◌≡◌, ◌⊎◌, inl, inr, drop, []}
use Rattle.pure_shared_maps.specs.View.{pairs_of}
use Rattle.pure_shared_maps.proofs.FindLaws.{at_place, nothing_left}
use Rattle.pure_shared_maps.proofs.MergeLaws.{left_step, right_step, all_ascends, all_same, more_pairs}
use Rattle.pure_shared_maps.proofs.entries.merged.Goals as goal
use Rattle.pure_shared_maps.proofs.entries.merged.Goals.{then-loop-of_first-test+else-of_second-second, else-loop-of_first-test}

pub loop-of_first-preserved-then-right-left : goal.loop-of_first-preserved-then-right-left
loop-of_first-preserved-then-right-left g c =
    right_step _ _ _ _ _ _ _ _ _
    (at_place c.loop-of_first.of_first c.args.first.now c.index-first-of_first.result c.loop-of_first-test.true c.index-first-of_first.is)
    (at_place c.loop-of_first.of_second c.args.second.now c.index-second-of_second.result c.if-of_second-second.true c.index-second-of_second.is)
    c.in_ok-push_shared.ensures c.if-right-left.true c.loop-of_first.invariant

pub loop-of_first-preserved : goal.loop-of_first-preserved
loop-of_first-preserved g c =
    left_step _ _ _ _ _ _ _ _ _
    (at_place c.loop-of_first.of_first c.args.first.now c.index-first-of_first.result c.loop-of_first-test.true c.index-first-of_first.is)
    (at_place c.loop-of_first.of_second c.args.second.now c.index-second-of_second.result c.if-of_second-second.true c.index-second-of_second.is)
    c.in_ok-push_shared-2.ensures c.if-right-left.false c.loop-of_first.invariant

pub returns-clause-ascends : goal.returns-clause-ascends
returns-clause-ascends g c =
    let first = c.args.first.now in
    let second = c.args.second.now in
    let ended : (drop c.loop-of_first.of_first (pairs_of first) ≡ []) ⊎ (drop c.loop-of_first.of_second (pairs_of second) ≡ []) = elim c.loop-of_first-test.branch [
      | then-loop-of_first-test+else-of_second-second w ↦ inr (nothing_left _ second w.if-of_second-second.false)
      | else-loop-of_first-test w ↦ inl (nothing_left _ first w.loop-of_first-test.false)
    ] in
    all_ascends _ _ _ _ _ _ c.loop-of_first.invariant ended (more_pairs _ _ _ first c.in_ok-push_rest.ensures) (more_pairs _ _ _ second c.in_ok-push_rest-2.ensures)

pub returns-clause-same : goal.returns-clause-same
returns-clause-same g c =
    all_same _ _ _ _ _ _ c.loop-of_first.invariant (more_pairs _ _ _ c.args.first.now c.in_ok-push_rest.ensures) (more_pairs _ _ _ c.args.second.now c.in_ok-push_rest-2.ensures)
