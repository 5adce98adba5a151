use Rattle.std.proofs.Common.{arith}
use Rattle.std.specs.Vec.Iter.{into_iter_items}
use Rattle.pure_session.proofs.TableLemmas.{goes-none, goes-turn, goes-end}
use Rattle.pure_check_work.specs.Cancelled.{IsHeldOf}
use Rattle.pure_check_work.proofs.entries.entries.Goals as goal

pub loop-promise-init : goal.loop-promise-init
loop-promise-init c = goes-none IsHeldOf _ _ _ c.in_ok-entries.ensures.items c.into_iter-promise-iterator.ensures.into_iter_gives.0

pub loop-promise-preserved : goal.loop-promise-preserved
loop-promise-preserved c = goes-turn IsHeldOf c.args.promises.items (into_iter_items c.loop-promise.promise-iterator) (into_iter_items c.next.new.self) c.in-Some.promise c.loop-promise.entries.items c.push.new.self.items _ c.in-Some.ensures.steps.0 c.in_ok-entry.ensures c.in_ok-push.ensures.items c.loop-promise.invariant

pub returns : goal.returns
returns c = goes-end IsHeldOf c.args.promises.items (into_iter_items c.loop-promise.promise-iterator) c.loop-promise.entries.items (omega (arith, c.loop-promise.promise-iterator.rest.ok.0, c.in-None.ensures.steps.0)) c.loop-promise.invariant
