use Rattle.pure_replay.proofs.ItemLaws.{none_good, items-turn, items-stop, items-all}
use Rattle.pure_replay.proofs.items.declarations.Goals as goal

pub loop-place-init : goal.loop-place-init
loop-place-init c = (c.in_ok-declared.ensures, none_good)

pub loop-place-preserved : goal.loop-place-preserved
loop-place-preserved c =
    items-turn c.args.items.now c.loop-place.place c.index-items-place.result c.loop-place-test.true c.index-items-place.is c.loop-place.declared c.loop-place.invariant.0 c.loop-place.invariant.1 c.in-Ok.more c.in-Ok.ensures.0 c.in-Ok.ensures.1

pub returns-in-Err : goal.returns-in-Err
returns-in-Err c =
    items-stop c.args.items.now c.loop-place.place c.index-items-place.result c.loop-place-test.true c.index-items-place.is c.loop-place.declared c.loop-place.invariant.0 c.loop-place.invariant.1 c.in-Err.fault c.in-Err.ensures

pub returns : goal.returns
returns c = items-all c.args.items.now c.loop-place.place c.loop-place.declared c.loop-place-test.false c.loop-place.invariant.0 c.loop-place.invariant.1
