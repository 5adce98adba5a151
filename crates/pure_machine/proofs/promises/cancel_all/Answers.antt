use Rattle.std.proofs.Common.{length, arith}
use Rattle.std.proofs.lemmas.List.{length-set}
use Rattle.std.proofs.lemmas.List.Edits.{map_over_more}
use Rattle.pure_machine.specs.State.{cancelled_promise}
use Rattle.pure_machine.proofs.promises.cancel_all.Goals as goal

pub loop-i-preserved : goal.loop-i-preserved
loop-i-preserved g c = (rw (c.cancel_one.ensures, ← c.index-promises-i.is) (map_over_more (cancelled_promise c.args.groups.now) c.args.promises.now c.loop-i.promises c.loop-i.i c.index-promises-i.result (omega (arith, c.loop-i-test.true, c.loop-i.auto.i-end, c.loop-i.invariant.1)) c.loop-i.invariant.0 c.index-promises-i.is), rw (length-set c.loop-i.promises c.loop-i.i c.cancel_one.new.promise) c.loop-i.invariant.1)
