use Rattle.std.proofs.Common.{◌≡◌, ◌↔◌, ◌∙◌, IsTrue, refl, sym, ap, subst, map}
use Rattle.pure_promise_fates.specs.Entries.{Entry, Fault, IsNotShown}
use Rattle.pure_promise_fates.specs.Reach.{Reach, IsAt}
use Rattle.pure_promise_fates.proofs.PlaceLaws.{at-once, at-read}
use Rattle.pure_promise_fates.proofs.CodeLaws.{at-seen, left_cancelled}
use Rattle.pure_promise_fates.proofs.ReachLaws.{put-shown, put-fault, put-cancelled}
use Rattle.pure_promise_fates.proofs.reach.put.Goals as goal

pub put_place-requires : goal.put_place-requires
put_place-requires g c =
    let at = at-seen g.E.Reported.entry c.args.entries.now c.args.place c.index-entries-place-in-None.result c.requires.within c.index-entries-place-in-None.is in
    rw (← ap Reach.row c.reach.view_is) at (c.requires.reached.wide.room c.args.place (g.E.Reported.entry c.index-entries-place-in-None.result) at (c.is_fault.ensures.0 c.if-is_fault.true))

pub returns-in-Some-clause-more : goal.returns-in-Some-clause-more
returns-in-Some-clause-more g c = λ ks e there before.
    let at = at-seen g.E.Reported.entry c.args.entries.now c.args.place c.index-entries-place.result c.requires.within c.index-entries-place.is in
    let same = at-once (map g.E.Reported.entry c.args.entries.now) c.args.place (g.E.Reported.entry c.index-entries-place.result) e at there in
    let shown = ap Entry.own (sym same) ∙ c.in-Some.ensures in
    let among = subst (IsAt c.args.reached.now c.args.place) (sym c.index-reached-place.is) (at-read c.args.reached.now c.args.place c.index-reached-place.result c.requires.known) in
    let theirs = (c.requires.reached.each c.args.place e c.index-reached-place.result there among c.in-Some.field-0.now shown).0 in
    put-shown (map g.E.Reported.entry c.args.entries.now) c.requires.reached.ascend c.args.place e there ks c.args.reach.now _ before c.in-Some.field-0.now c.index-reached-place.result shown theirs c.requires.reached.wide
    (λ place. rw (← ap Reach.row c.reach.view_is, ← ap Reach.row c.other.view_is, ← c.deref.ensures.value) (c.put_row.ensures.held place))
    (rw (← ap Reach.mark c.reach.view_is, ← ap Reach.mark c.other.view_is) refl)

pub returns-then-is_fault-clause-more : goal.returns-then-is_fault-clause-more
returns-then-is_fault-clause-more g c = λ ks e there before.
    let at = at-seen g.E.Reported.entry c.args.entries.now c.args.place c.index-entries-place-in-None.result c.requires.within c.index-entries-place-in-None.is in
    let same = at-once (map g.E.Reported.entry c.args.entries.now) c.args.place (g.E.Reported.entry c.index-entries-place-in-None.result) e at there in
    put-fault (map g.E.Reported.entry c.args.entries.now) c.requires.reached.ascend c.args.place e there ks c.args.reach.now _ before (ap Entry.own (sym same) ∙ c.is_fault.ensures.0 c.if-is_fault.true)
    (λ place. rw (← ap Reach.row c.reach.view_is) (c.put_place.ensures.held place))
    (rw (← ap Reach.mark c.reach.view_is) refl)

pub returns-else-is_fault-clause-more : goal.returns-else-is_fault-clause-more
returns-else-is_fault-clause-more g c = λ ks e there before.
    let first = at-seen g.E.Reported.entry c.args.entries.now c.args.place c.index-entries-place.result c.requires.within c.index-entries-place.is in
    let at = at-seen g.E.Reported.entry c.args.entries.now c.args.place c.index-entries-place-in-None.result c.requires.within c.index-entries-place-in-None.is in
    let same = at-once (map g.E.Reported.entry c.args.entries.now) c.args.place (g.E.Reported.entry c.index-entries-place-in-None.result) e at there in
    let shown = at-once (map g.E.Reported.entry c.args.entries.now) c.args.place (g.E.Reported.entry c.index-entries-place.result) e first there in
    put-cancelled (map g.E.Reported.entry c.args.entries.now) c.requires.reached.ascend c.args.place e there ks c.args.reach.now _ before
    (left_cancelled e.own c.is_fault.result (subst (λ d. IsNotShown d.own) shown c.in-None.ensures) (subst (λ d. IsTrue c.is_fault.result ↔ (d.own ≡ Fault)) same c.is_fault.ensures) c.if-is_fault.false)
    (rw (← ap Reach.row c.reach.view_is) refl) refl
