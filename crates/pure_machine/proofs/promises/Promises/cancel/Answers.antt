use Rattle.pure_machine.proofs.PromiseLaws.{none_ready-written}
use Rattle.pure_machine.proofs.promises.Promises.cancel.Goals as goal

pub invariant_of-self : goal.invariant_of-self
invariant_of-self g c = (none_ready-written c.args.groups.now c.self.inside.list.items c.cancel_all.new.promises c.as_mut_slice.result.now c.self.inside.list.len c.self.inside.cursor c.as_mut_slice.ensures.value c.as_mut_slice.ensures.len c.cancel_all.ensures c.self.invariant.0, c.self.invariant.1, c.self.invariant.2)
