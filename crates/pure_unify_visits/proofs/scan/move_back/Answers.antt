use Rattle.std.proofs.Common.{◌∙◌}
use Rattle.pure_unify_visits.proofs.ListLaws.{moved_back}
use Rattle.pure_unify_visits.proofs.scan.move_back.Goals as goal

pub loop-pair-preserved : goal.loop-pair-preserved
loop-pair-preserved c =
    moved_back c.loop-pair.pairs.items c.pop.new.self.items c.loop-pair.list.items c.push.new.self.items c.in-Some.pair c.in-Some.ensures.items c.in_ok-push.ensures.items ∙ c.loop-pair.invariant
