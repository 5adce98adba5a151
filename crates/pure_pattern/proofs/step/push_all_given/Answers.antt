use Rattle.std.specs.Vec.Iter.{into_iter_items}
use Rattle.pure_pattern.proofs.FollowLaws.{kept-more}
use Rattle.pure_pattern.proofs.step.push_all_given.Goals as goal

pub loop-bind-preserved : goal.loop-bind-preserved
loop-bind-preserved c =
    rw (c.in_ok-push_given.ensures) (kept-more c.args.maxidx c.loop-bind.binds.items (into_iter_items c.loop-bind.bind-iterator) (into_iter_items c.next.new.self) _ c.in-Some.bind c.loop-bind.invariant c.in-Some.ensures.steps.0)
