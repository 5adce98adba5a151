use Rattle.std.proofs.Common.{map, arith}
use Rattle.pure_promise_fates.proofs.CodeLaws.{at-seen, seen-within, wider, as_wide}
use Rattle.pure_promise_fates.proofs.reach.width_of.Goals.{then-is_fault, else-is_fault}
use Rattle.pure_promise_fates.proofs.reach.width_of.Goals as goal

pub loop-place-preserved : goal.loop-place-preserved
loop-place-preserved g c =
    let at = at-seen g.E.Reported.entry c.args.entries.now c.loop-place.place c.index-entries-place.result c.loop-place-test.true c.index-entries-place.is in
    elim c.if-is_fault.branch [
      | then-is_fault w ↦ λ p e there fault less. rw w.width-is (wider (map g.E.Reported.entry c.args.entries.now) c.loop-place.place c.loop-place.width c.loop-place.invariant p less e there fault)
      | else-is_fault w ↦ rw w.width-is (as_wide (map g.E.Reported.entry c.args.entries.now) c.loop-place.place c.loop-place.width (g.E.Reported.entry c.index-entries-place.result) at (λ fault. let yes_fault = c.is_fault.ensures.1 fault in let told = w.if-is_fault.false in absurd cc) c.loop-place.invariant)
    ]

pub returns : goal.returns
returns g c = record { room = λ p e at fault. c.loop-place.invariant p e at fault (let within = seen-within g.E.Reported.entry c.args.entries.now p e at in omega (arith, within, c.loop-place-test.false)) }
