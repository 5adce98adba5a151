use Rattle.std.proofs.Common.{refl}
use Rattle.pure_race.proofs.LaneLaws.{lanes-turn}
use Rattle.pure_race.proofs.lanes.fresh_lanes.Goals as goal

pub loop-first-preserved : goal.loop-first-preserved
loop-first-preserved c = lanes-turn c.loop-first.lanes.items c.push.new.self.items _ c.loop-first.first refl c.in_ok-push.ensures.items c.loop-first.invariant
