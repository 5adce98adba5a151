use Rattle.std.proofs.Common.{map, take}
use Rattle.pure_text.specs.Lists.{IsIn}
use Rattle.pure_text.proofs.ListLaws.{each_at, read_in}
use Rattle.pure_text.proofs.LoopLaws.{longer_by}
use Rattle.pure_promise_fates.specs.Entries.{Entry}
use Rattle.pure_citations.proofs.ReachedLaws.{rest-more}
use Rattle.pure_citations.proofs.reach.put_rests.Goals as goal

pub place_of-place-requires-clause-stands : goal.place_of-place-requires-clause-stands
place_of-place-requires-clause-stands g c =
    each_at (λ k. IsIn k (map Entry.label (map g.E.Reported.entry c.args.entries.now))) c.args.rests.now c.requires.stand c.label-item.result (read_in c.args.rests.now c.loop-label.label-index c.label-item.result c.loop-label-test.true c.label-item.is)

pub loop-label-preserved : goal.loop-label-preserved
loop-label-preserved g c =
    rw (longer_by c.args.rests.now c.loop-label.label-index c.label-item.result c.loop-label-test.true c.label-item.is)
    (rest-more (map g.E.Reported.entry c.args.entries.now) (take c.loop-label.label-index c.args.rests.now) c.label-item.result c.args.row.now.items c.loop-label.row.items c.put.new.row.items c.place_of-place.result c.requires.ascend c.place_of-place.ensures.at c.in_ok-put.ensures c.loop-label.invariant)
