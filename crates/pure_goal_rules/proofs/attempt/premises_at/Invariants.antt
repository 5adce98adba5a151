use Rattle.std.proofs.Common.{◌≡◌, map, take}
use Rattle.pure_goal_rules.specs.Shown.{shown}
use Rattle.pure_goal_rules.specs.Attempts.{premise_at}
use Rattle.pure_goal_rules.proofs.attempt.premises_at.Given as goal

abbrev pub invariant-loop-premise : goal.invariant-loop-premise
invariant-loop-premise l = l.made.items ≡ map (premise_at (shown l.items) (shown l.before) (shown l.after)) (take l.premise-index l.premises)
