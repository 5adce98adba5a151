use Rattle.std.proofs.Common.{◌∙◌, sym, ap, not, map}
use Rattle.pure_promise_fates.proofs.CodeLaws.{at-seen, proved-clear, proved-marked, unshown-proved}
use Rattle.pure_promise_fates.proofs.fate.is_proved_by.Goals as goal

pub returns-then-not-cancelled : goal.returns-then-not-cancelled
returns-then-not-cancelled g c =
    let at = at-seen g.E.Reported.entry c.args.entries.now c.args.place c.index-entries-place.result c.requires.within c.index-entries-place.is in
    proved-clear (map g.E.Reported.entry c.args.entries.now) c.requires.entries c.args.place (g.E.Reported.entry c.index-entries-place.result) at c.args.reach.now c.requires.reach.0 c.requires.reach.1
    c.in-Some.field-0.now c.in-Some.ensures (sym c.cancelled.ensures ∙ c.if-not-cancelled.true) c.is_empty.result (rw c.faults.ensures at c.is_empty.ensures)

pub returns-else-not-cancelled : goal.returns-else-not-cancelled
returns-else-not-cancelled g c =
    let at = at-seen g.E.Reported.entry c.args.entries.now c.args.place c.index-entries-place.result c.requires.within c.index-entries-place.is in
    proved-marked (map g.E.Reported.entry c.args.entries.now) c.requires.entries c.args.place (g.E.Reported.entry c.index-entries-place.result) at c.args.reach.now c.requires.reach.0 c.requires.reach.1
    c.in-Some.field-0.now c.in-Some.ensures (not c.cancelled.result) (ap not c.if-not-cancelled.false) (sym c.cancelled.ensures ∙ c.if-not-cancelled.false)

pub returns-in-None : goal.returns-in-None
returns-in-None g c =
    let at = at-seen g.E.Reported.entry c.args.entries.now c.args.place c.index-entries-place.result c.requires.within c.index-entries-place.is in
    unshown-proved (map g.E.Reported.entry c.args.entries.now) c.requires.entries c.args.place (g.E.Reported.entry c.index-entries-place.result) at c.args.reach.now c.requires.reach.0 c.requires.reach.1 c.in-None.ensures
