use Rattle.std.proofs.Common.{refl}
use Rattle.pure_goal_rows.proofs.AskedLaws.{goal_end, goal_more}
use Rattle.pure_goal_rows.proofs.asked.+is_goal_proposition.Goals as goal

pub returns-then-is_long : goal.returns-then-is_long
returns-then-is_long t c = λ h. goal_more c.args.t.now c.in-Some.subgoal.now c.in-Some.rest.now c.in-Some.ensures (c.if-is_long.ensures refl) (c.is_goal_proposition.ensures h)

pub returns-in-None : goal.returns-in-None
returns-in-None t c = λ h. goal_end c.args.t.now (c.is_marked.ensures h)
