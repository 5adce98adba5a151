use Rattle.std.proofs.Common.{subst, map}
use Rattle.pure_promise_fates.specs.Entries.{IsNotShown}
use Rattle.pure_promise_fates.specs.Seen.{seen_fate}
use Rattle.pure_promise_fates.proofs.PlaceLaws.{at-once}
use Rattle.pure_promise_fates.proofs.CodeLaws.{at-seen, seen-length, fate-clear, fate-tainted, fate-unshown}
use Rattle.pure_promise_fates.proofs.fate.fate_by.Goals as goal

pub returns-then-is_empty : goal.returns-then-is_empty
returns-then-is_empty g c =
    let at = at-seen g.E.Reported.entry c.args.entries.now c.args.place c.index-entries-place.result c.requires.within c.index-entries-place.is in
    fate-clear (map g.E.Reported.entry c.args.entries.now) c.requires.entries c.args.place (g.E.Reported.entry c.index-entries-place.result) at c.args.reach.now c.requires.reach.0 c.requires.reach.1
    c.in-Some.field-0.now c.in-Some.ensures (rw c.faults.ensures at (c.is_empty.ensures.0 c.if-is_empty.true)) (seen_fate c.unfailed.result) (rw c.cancelled.ensures at c.unfailed.ensures)

pub returns-in_ok-faults-in-Some : goal.returns-in_ok-faults-in-Some
returns-in_ok-faults-in-Some g c =
    let at = at-seen g.E.Reported.entry c.args.entries.now c.args.place c.index-entries-place.result c.requires.within c.index-entries-place.is in
    fate-tainted (map g.E.Reported.entry c.args.entries.now) c.requires.entries c.args.place (g.E.Reported.entry c.index-entries-place.result) at c.args.reach.now c.requires.reach.0 c.requires.reach.1
    c.in-Some.field-0.now c.in-Some.ensures (λ none. let yes_empty = c.is_empty.ensures.1 (rw c.faults.ensures none) in let told = c.if-is_empty.false in absurd cc) c.in_ok-faults-in-Some.faults.items
    (rw (seen-length g.E.Reported.entry c.args.entries.now, ← c.faults-in-Some.ensures) (c.in_ok-faults-in-Some.ensures))

pub returns-in-None : goal.returns-in-None
returns-in-None g c =
    let first = at-seen g.E.Reported.entry c.args.entries.now c.args.place c.index-entries-place.result c.requires.within c.index-entries-place.is in
    let at = at-seen g.E.Reported.entry c.args.entries.now c.args.place c.index-entries-place-in-None.result c.requires.within c.index-entries-place-in-None.is in
    let same = at-once (map g.E.Reported.entry c.args.entries.now) c.args.place (g.E.Reported.entry c.index-entries-place.result) (g.E.Reported.entry c.index-entries-place-in-None.result) first at in
    fate-unshown (map g.E.Reported.entry c.args.entries.now) c.requires.entries c.args.place (g.E.Reported.entry c.index-entries-place-in-None.result) at c.args.reach.now c.requires.reach.0 c.requires.reach.1
    (subst (λ e. IsNotShown e.own) same c.in-None.ensures) c.is_fault.result c.is_fault.ensures (seen_fate c.unshown.result) c.unshown.ensures
