use Rattle.std.proofs.Common.{subst, map}
use Rattle.pure_promise_fates.specs.Reach.{IsAt}
use Rattle.pure_promise_fates.proofs.CodeLaws.{reaches_more, one_longer}
use Rattle.pure_promise_fates.proofs.reach.reaches.Goals as goal

pub loop-place-preserved : goal.loop-place-preserved
loop-place-preserved g c = (
  reaches_more (map g.E.Reported.entry c.args.entries.now) c.width_of-width.result c.loop-place.reached.items c.push.new.self.items c.in_ok-reach.reach c.in_ok-push.ensures.items c.loop-place.invariant.0
      (λ e at. c.in_ok-reach.ensures e (subst (λ p. IsAt (map g.E.Reported.entry c.args.entries.now) p e) c.loop-place.invariant.1 at)),
  one_longer c.loop-place.reached.items c.push.new.self.items c.in_ok-reach.reach c.loop-place.place c.in_ok-push.ensures.items c.loop-place.invariant.1,
)
