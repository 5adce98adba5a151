use Rattle.std.proofs.Common.{map}
use Rattle.pure_promise_fates.proofs.CodeLaws.{at-seen}
use Rattle.pure_promise_fates.proofs.HeldLaws.{none_held, held_next, held_passed}
use Rattle.pure_promise_fates.proofs.fate.held.Goals.{then-holds+in_ok-push, else-holds}
use Rattle.pure_promise_fates.proofs.fate.held.Goals as goal

pub loop-place-init : goal.loop-place-init
loop-place-init g c = rw c.new-faults.ensures.items (none_held (map g.E.Reported.entry c.args.entries.now) c.args.row.now)

pub loop-place-preserved : goal.loop-place-preserved
loop-place-preserved g c = elim c.if-holds.branch [
  | then-holds+in_ok-push w ↦
      let at = at-seen g.E.Reported.entry c.args.entries.now c.loop-place.place w.index-entries-place.result c.loop-place-test.true w.index-entries-place.is in
      rw (w.faults-is, w.in_ok-push.ensures.items, w.label.ensures)
      (held_next (map g.E.Reported.entry c.args.entries.now) c.requires c.args.row.now c.loop-place.place (g.E.Reported.entry w.index-entries-place.result) c.loop-place.faults.items at (c.holds.ensures.0 w.if-holds.true) c.loop-place.invariant)
  | else-holds w ↦ rw w.faults-is (held_passed (map g.E.Reported.entry c.args.entries.now) c.requires c.args.row.now c.loop-place.place c.loop-place.faults.items (λ h. let yes_held = c.holds.ensures.1 h in let told = w.if-holds.false in absurd cc) c.loop-place.invariant)
]
