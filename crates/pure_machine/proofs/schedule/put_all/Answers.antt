use Rattle.std.proofs.Common.{refl}
use Rattle.std.proofs.lemmas.List.{get_or_default}
use Rattle.pure_machine.proofs.DueLaws.{scheduled-turn}
use Rattle.pure_machine.proofs.schedule.put_all.Goals as goal

pub loop-cancel-preserved : goal.loop-cancel-preserved
loop-cancel-preserved c = scheduled-turn c.args.cancels.now c.loop-cancel.cancel-index _ _ c.loop-cancel.buckets c.put.new.self c.loop-cancel-test.true (get_or_default c.args.cancels.now c.loop-cancel.cancel-index _ _ c.loop-cancel-test.true) refl c.loop-cancel.invariant c.in_ok-put.ensures
