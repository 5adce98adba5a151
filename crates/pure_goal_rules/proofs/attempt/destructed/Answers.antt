use Rattle.pure_goal_rules.specs.Shown.{shown}
use Rattle.pure_goal_rules.proofs.AttemptLaws.{destructed_along}
use Rattle.pure_goal_rules.proofs.attempt.destructed.Goals as goal

pub returns : goal.returns
returns c =
    destructed_along (shown c.args.items.now) (shown c.args.spot.now.before.now) (shown c.args.spot.now.after.now) c.args.spot.now.hypothesis.now c.args.rule.now c.args.conclusion.now c.requires
    c.in_ok-own.own c.in_ok-lifted.lifted c.in_ok-last.last c.in_ok-inside.inside c.in_ok-own.ensures c.in_ok-lifted.ensures c.in_ok-last.ensures c.in_ok-inside.ensures c.behind-2.result c.behind-2.ensures
