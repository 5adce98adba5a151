use Rattle.pure_goal_rules.specs.Shown.{shown, seen_place}
use Rattle.pure_goal_rules.proofs.AttemptLaws.{destruction_leaves}
use Rattle.pure_goal_rules.proofs.attempt.destruction_premises.Goals as goal

pub returns : goal.returns
returns c =
    destruction_leaves (shown c.args.items.now) (seen_place c.args.spot.now) c.requires c.args.conclusion.now c.args.rule.now.first.now c.args.rule.now.others.now c.args.rule.now.conclusion.now
    c.in_ok-premises.premises.items c.push.new.self.items c.in_ok-destructed.field-0
    c.in_ok-premises.ensures c.in_ok-destructed.ensures c.in_ok-push.ensures.items
