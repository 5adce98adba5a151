use Rattle.std.proofs.Common.{map}
use Rattle.pure_promise_fates.proofs.CodeLaws.{at-seen}
use Rattle.pure_citations.proofs.ReachedLaws.{rests-stand, grown-shown, grown-unshown}
use Rattle.pure_citations.proofs.reach.put_of.Goals as goal

pub put_rests-requires-clause-stand : goal.put_rests-requires-clause-stand
put_rests-requires-clause-stand g c =
    let at = at-seen g.E.Reported.entry c.args.entries.now c.args.place c.index-entries-place.result c.requires.within c.index-entries-place.is in
    rests-stand (map g.E.Reported.entry c.args.entries.now) c.requires.entries c.args.place (g.E.Reported.entry c.index-entries-place.result) at c.in-Some.rests.now c.in-Some.ensures

pub returns-in_ok-put_rests-in-Some : goal.returns-in_ok-put_rests-in-Some
returns-in_ok-put_rests-in-Some g c =
    let at = at-seen g.E.Reported.entry c.args.entries.now c.args.place c.index-entries-place.result c.requires.within c.index-entries-place.is in
    grown-shown (map g.E.Reported.entry c.args.entries.now) c.args.place (g.E.Reported.entry c.index-entries-place.result) at c.in-Some.rests.now c.in-Some.ensures _ _ c.in_ok-put_rests-in-Some.ensures

pub returns-in-None : goal.returns-in-None
returns-in-None g c =
    let at = at-seen g.E.Reported.entry c.args.entries.now c.args.place c.index-entries-place.result c.requires.within c.index-entries-place.is in
    grown-unshown (map g.E.Reported.entry c.args.entries.now) c.args.place (g.E.Reported.entry c.index-entries-place.result) at c.in-None.ensures c.args.row.now.items
