use Rattle.pure_goal_rules.specs.Shown.{shown, seen_place}
use Rattle.pure_goal_rules.proofs.AttemptLaws.{premises_left}
use Rattle.pure_goal_rules.proofs.attempt.elimination_premises.Goals as goal

pub returns : goal.returns
returns c = premises_left (shown c.args.items.now) (seen_place c.args.spot.now) c.requires c.args.rule.now.others.now c.in_ok-premises.premises.items c.in_ok-premises.ensures
