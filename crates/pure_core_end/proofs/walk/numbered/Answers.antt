use Rattle.pure_core_end.proofs.OriginLaws.{one-further}
use Rattle.pure_core_end.proofs.walk.numbered.Goals as goal

pub loop-number-preserved : goal.loop-number-preserved
loop-number-preserved g c = one-further c.args.core.now.promises c.loop-number.promises.items c.push.new.self.items c.loop-number.number _ _ c.loop-number.invariant c.promise.ensures c.in_ok-again.ensures c.in_ok-push.ensures.items
