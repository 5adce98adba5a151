use Rattle.std.proofs.Common.{◌≡◌, take}
use Rattle.pure_goal_steps.specs.Steps.{premises_behind}
use Rattle.pure_goal_rules.specs.Shown.{shown}
use Rattle.pure_goal_rules.proofs.attempt.premises_behind.Given as goal

abbrev pub invariant-loop-premise : goal.invariant-loop-premise
invariant-loop-premise l = l.made.items ≡ premises_behind (shown l.items) (take l.premise-index l.premises)
