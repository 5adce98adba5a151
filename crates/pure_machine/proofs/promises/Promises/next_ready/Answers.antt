use Rattle.std.proofs.Common.{◌∙◌, arith}
use Rattle.pure_machine.proofs.PromiseLaws.{found_ready}
use Rattle.pure_machine.proofs.promises.Promises.next_ready.Goals as goal

pub returns-clause-found : goal.returns-clause-found
returns-clause-found g c = found_ready c.args.self.now c.as_slice.result.now c.ready_from-at.result (c.as_slice.ensures.value ∙ c.self.view_is) (omega (arith, c.if-at-len.false, c.len.ensures, c.as_slice.ensures.len)) c.ready_from-at.ensures.at c.ready_from-at.ensures.below
