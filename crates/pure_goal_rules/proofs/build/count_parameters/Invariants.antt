use Rattle.std.proofs.Common.{◌≡◌, length, take}
use Rattle.pure_goal_laws.specs.Prefix.{parameters}
use Rattle.pure_goal_rules.specs.Shown.{shown}
use Rattle.pure_goal_rules.proofs.build.count_parameters.Given as goal

abbrev pub invariant-loop-item : goal.invariant-loop-item
invariant-loop-item l = l.count ≡ length (parameters (shown (take l.item-index l.items)))
