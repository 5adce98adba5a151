use Rattle.std.proofs.Common.{◌≡◌, ◌∙◌, ◌+◌, [], ◌∷◌, ◌++◌, map, subst, sym, length, arith}
use Rattle.pure_promise_fates.proofs.PlaceLaws.{at-map}
use Rattle.pure_promise_fates.proofs.CodeLaws.{at-seen, seen-length}
use Rattle.pure_promise.specs.declared.entry.Entry.{Entry}
use Rattle.pure_promise.specs.Seen.{reported}
use Rattle.pure_promise.proofs.RowLaws.{at_place}
use Rattle.pure_promise.proofs.FateLaws.{AreProvedBefore, none_before, proved_next, proved_passed, all_joined}
use Rattle.pure_promise.proofs.joining.joined.Goals.{then-is_joined+in_ok-push, else-is_joined}
use Rattle.pure_promise.proofs.joining.joined.Goals as goal

pub loop-place-init : goal.loop-place-init
loop-place-init c = rw c.new-labels.ensures.items (none_before (map reported c.args.entries.now))

pub loop-place-preserved : goal.loop-place-preserved
loop-place-preserved c = elim c.if-is_joined.branch [
  | then-is_joined+in_ok-push w ↦
      let at = at-seen reported c.args.entries.now c.loop-place.place w.index-entries-place.result c.loop-place-test.true w.index-entries-place.is in
      rw (w.labels-is, w.in_ok-push.ensures.items)
      (subst (λ (r : Entry). AreProvedBefore (map reported c.args.entries.now) (c.loop-place.place + 1) (c.loop-place.labels.items ++ r.label ∷ [])) w.index-entries-place.is
      (proved_next (map reported c.args.entries.now) c.requires c.loop-place.place (reported w.index-entries-place.result) c.loop-place.labels.items at ((c.is_joined.ensures (reported w.index-entries-place.result) at).0 w.if-is_joined.true) c.loop-place.invariant))
  | else-is_joined w ↦
      let found = at_place c.args.entries.now c.loop-place.place c.loop-place-test.true in
      let at = at-map reported c.args.entries.now c.loop-place.place found.0 found.1 in
      rw w.labels-is (proved_passed (map reported c.args.entries.now) c.requires c.loop-place.place (reported found.0) c.loop-place.labels.items at (λ h. let yes_proved = (c.is_joined.ensures (reported found.0) at).1 h in let told = w.if-is_joined.false in absurd cc) c.loop-place.invariant)
]

pub returns : goal.returns
returns c =
    let all : c.loop-place.place ≡ length c.args.entries.now = omega (arith, c.loop-place.auto.place-end, c.loop-place-test.false) in
    all_joined (map reported c.args.entries.now) c.requires c.loop-place.labels.items
    (subst (λ p. AreProvedBefore (map reported c.args.entries.now) p c.loop-place.labels.items) (all ∙ sym (seen-length reported c.args.entries.now)) c.loop-place.invariant)
