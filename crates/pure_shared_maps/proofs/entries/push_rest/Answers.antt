use Rattle.pure_shared_maps.proofs.FindLaws.{at_place}
use Rattle.pure_shared_maps.proofs.MergeLaws.{pushed, all_pushed}
use Rattle.pure_shared_maps.proofs.entries.push_rest.Goals as goal

pub loop-place-preserved : goal.loop-place-preserved
loop-place-preserved g c =
    pushed _ _ _ _ _ _ c.in_ok-push_shared.ensures (at_place c.loop-place.place c.args.entries.now c.index-entries-place.result c.loop-place-test.true c.index-entries-place.is) c.loop-place.invariant

pub returns : goal.returns
returns g c = all_pushed _ _ c.loop-place.place c.args.from c.args.entries.now c.loop-place-test.false c.loop-place.invariant
