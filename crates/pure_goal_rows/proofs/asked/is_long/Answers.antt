use Rattle.pure_goal_rows.proofs.AskedLaws.{long_itself}
use Rattle.pure_goal_rows.proofs.asked.is_long.Goals as goal

pub returns-in-Ok : goal.returns-in-Ok
returns-in-Ok c = λ h. long_itself c.args.t.now c.in-Ok.long (c.are_same.ensures.0 h) c.in-Ok.ensures
