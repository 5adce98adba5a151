use Rattle.std.proofs.Common.{length, arith}
use Rattle.pure_definitions.proofs.MeasureLemmas.{lift_stays}
use Rattle.pure_goal_laws.specs.Prefix.{parameters}
use Rattle.pure_goal_rules.specs.Shown.{shown}
use Rattle.pure_goal_rules.proofs.standing.standing.Goals as goal

pub returns-then-loose_above_of-eq0 : goal.returns-then-loose_above_of-eq0
returns-then-loose_above_of-eq0 c = rw (lift_stays (length (parameters (shown c.args.spot.now.after.now))) 0 c.args.spot.now.hypothesis.now (omega arith)) c.copy.ensures
