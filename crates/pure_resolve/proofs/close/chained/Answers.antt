use Rattle.std.proofs.Common.{◌∙◌}
use Rattle.pure_resolve.proofs.ChainLaws.{chained-turn}
use Rattle.pure_resolve.proofs.close.chained.Goals as goal

pub loop-premise-preserved : goal.loop-premise-preserved
loop-premise-preserved c =
    chained-turn c.pop.new.self.items c.loop-premise.premises.items c.in-Some.premise c.loop-premise.conclusion c.in_ok-conclusion.conclusion c.in-Some.ensures.items c.in_ok-conclusion.ensures ∙ c.loop-premise.invariant
