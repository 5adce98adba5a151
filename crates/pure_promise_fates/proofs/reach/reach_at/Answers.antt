use Rattle.std.proofs.Common.{map}
use Rattle.pure_promise_fates.proofs.CodeLaws.{at-seen, rests_known, reach_of_shown, reach_of_unshown}
use Rattle.pure_promise_fates.proofs.reach.reach_at.Goals as goal

pub reach_of-requires-clause-known : goal.reach_of-requires-clause-known
reach_of-requires-clause-known g c =
    let at = at-seen g.E.Reported.entry c.args.entries.now c.args.place c.index-entries-place.result c.requires.within c.index-entries-place.is in
    rw c.requires.next (rests_known (map g.E.Reported.entry c.args.entries.now) c.args.place (g.E.Reported.entry c.index-entries-place.result) c.in-Some.rests.now c.requires.entries at c.in-Some.ensures)

pub returns-in_ok-reach-in-Some : goal.returns-in_ok-reach-in-Some
returns-in_ok-reach-in-Some g c =
    let at = at-seen g.E.Reported.entry c.args.entries.now c.args.place c.index-entries-place.result c.requires.within c.index-entries-place.is in
    reach_of_shown (map g.E.Reported.entry c.args.entries.now) c.args.place (g.E.Reported.entry c.index-entries-place.result) at c.in-Some.rests.now c.in-Some.ensures c.args.width c.in_ok-reach-in-Some.reach c.in_ok-reach-in-Some.ensures

pub returns-in-None : goal.returns-in-None
returns-in-None g c =
    let at = at-seen g.E.Reported.entry c.args.entries.now c.args.place c.index-entries-place.result c.requires.within c.index-entries-place.is in
    reach_of_unshown (map g.E.Reported.entry c.args.entries.now) c.args.place (g.E.Reported.entry c.index-entries-place.result) at c.in-None.ensures c.args.width _
