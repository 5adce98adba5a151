use Rattle.pure_goal_rules.specs.Shown.{shown, seen_place}
use Rattle.pure_goal_rules.proofs.AttemptLaws.{elimination_are}
use Rattle.pure_goal_rules.proofs.attempt.elimination_pairs.Goals as goal

pub returns : goal.returns
returns c =
    elimination_are (shown c.args.items.now) (seen_place c.args.spot.now) c.requires c.args.conclusion.now c.args.rule.now.first.now c.args.rule.now.others.now c.args.rule.now.conclusion.now
    c.in_ok-own.own c.in_ok-pair.pair c.in_ok-eliminated.field-0 c.in_ok-matched.matched.items c.push.new.self.items
    c.in_ok-own.ensures c.in_ok-pair.ensures c.in_ok-matched.ensures c.in_ok-eliminated.ensures c.in_ok-push.ensures.items
