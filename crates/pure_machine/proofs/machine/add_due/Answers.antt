use Rattle.std.proofs.lemmas.List.{get_or_default}
use Rattle.pure_machine.proofs.DueLaws.{due-turn}
use Rattle.pure_machine.proofs.machine.add_due.Goals as goal

pub loop-cancel-preserved : goal.loop-cancel-preserved
loop-cancel-preserved c = due-turn c.args.cancels.now c.loop-cancel.cancel-index _ c.args.kept c.args.groups.now.items c.loop-cancel.groups.items c.add_if_due.new.groups.items c.loop-cancel-test.true (get_or_default c.args.cancels.now c.loop-cancel.cancel-index _ _ c.loop-cancel-test.true) c.loop-cancel.invariant c.in_ok-add_if_due.ensures
