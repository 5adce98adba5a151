use Rattle.std.proofs.Common.{◌∙◌, map, length}
use Rattle.pure_text.proofs.ListLaws.{each_at, read_in}
use Rattle.pure_text.proofs.LoopLaws.{longer_by}
use Rattle.pure_promise_fates.specs.Reach.{IsKnown}
use Rattle.pure_promise_fates.proofs.CodeLaws.{known_stands, reached_known}
use Rattle.pure_promise_fates.proofs.reach.reach_of.Goals as goal

pub place_of-place-requires-clause-stands : goal.place_of-place-requires-clause-stands
place_of-place-requires-clause-stands g c =
    known_stands (map g.E.Reported.entry c.args.entries.now) (length c.args.reached.now) c.label-item.result (each_at (IsKnown (map g.E.Reported.entry c.args.entries.now) (length c.args.reached.now)) c.args.rests.now c.requires.known c.label-item.result (read_in c.args.rests.now c.loop-label.label-index c.label-item.result c.loop-label-test.true c.label-item.is))

pub put-requires-clause-within : goal.put-requires-clause-within
put-requires-clause-within g c = c.place_of-place.ensures.within

pub put-requires-clause-known : goal.put-requires-clause-known
put-requires-clause-known g c =
    let w = c.place_of-place.ensures.at in
    let known = each_at (IsKnown (map g.E.Reported.entry c.args.entries.now) (length c.args.reached.now)) c.args.rests.now c.requires.known c.label-item.result (read_in c.args.rests.now c.loop-label.label-index c.label-item.result c.loop-label-test.true c.label-item.is) in
    reached_known (map g.E.Reported.entry c.args.entries.now) (length c.args.reached.now) c.place_of-place.result w.0 c.label-item.result c.requires.reached.ascend known w.1 w.2

pub loop-label-preserved : goal.loop-label-preserved
loop-label-preserved g c =
    let w = c.place_of-place.ensures.at in
    let more = c.put.ensures.more _ w.0 w.1 c.loop-label.invariant.0 in
    (rw (longer_by c.args.rests.now c.loop-label.label-index c.label-item.result c.loop-label-test.true c.label-item.is, ← w.2) more, c.put.ensures.count ∙ c.loop-label.invariant.1)
