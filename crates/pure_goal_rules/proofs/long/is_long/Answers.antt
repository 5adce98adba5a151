use Rattle.pure_goal_rules.proofs.OwnLongLaws.{long-comes}
use Rattle.pure_goal_rules.proofs.long.is_long.Goals as goal

pub returns : goal.returns
returns c = λ h. long-comes c.args.t.now (c.is_own_long_form.ensures h) (c.is_within.ensures.0 c.if-not-is_within.false)
