use Rattle.pure_resolve.proofs.EndLaws.{goal-flexible, end_marked, end_answer, end_large, no_subgoals, end_left, unmarked_derivable}
use Rattle.pure_resolve.proofs.state.Goal.finish.Goals as goal

pub returns-then-subgoals-ne0-clause-answer : goal.returns-then-subgoals-ne0-clause-answer
returns-then-subgoals-ne0-clause-answer g c = end_left c.args.self.now.thm c.requires c.subgoals.result c.subgoals.ensures c.if-subgoals-ne0.true

pub end_statement-requires : goal.end_statement-requires
end_statement-requires g c =
    end_marked c.args.self.now.thm c.requires (no_subgoals c.args.self.now.thm c.requires c.subgoals.result c.subgoals.ensures c.if-subgoals-ne0.false) c.in-Ok.smashed c.in-Ok.ensures.answer.0

pub returns-in_ok-end_statement-in-Ok-clause-answer : goal.returns-in_ok-end_statement-in-Ok-clause-answer
returns-in_ok-end_statement-in-Ok-clause-answer g c =
    end_answer c.args.self.now.thm c.requires (no_subgoals c.args.self.now.thm c.requires c.subgoals.result c.subgoals.ensures c.if-subgoals-ne0.false) c.in-Ok.smashed c.in-Ok.ensures.answer
    c.in_ok-end_statement-in-Ok.field-0 c.in_ok-end_statement-in-Ok.ensures

pub returns-in_ok-end_statement-in-Ok-clause-derivable : goal.returns-in_ok-end_statement-in-Ok-clause-derivable
returns-in_ok-end_statement-in-Ok-clause-derivable g c = λ q h.
    unmarked_derivable (g.B.Base.content c.args.thy.now) q c.in-Ok.smashed c.in_ok-end_statement-in-Ok.field-0 c.in_ok-end_statement-in-Ok.ensures
    (c.in-Ok.ensures.derivable q (goal-flexible c.args.self.now.thm c.requires) h)

pub returns-in-Err-Big-clause-answer : goal.returns-in-Err-Big-clause-answer
returns-in-Err-Big-clause-answer g c =
    let large = rw c.in-Err-Big.field-0-is at c.in-Err-Big.ensures.answer in
    end_large c.args.self.now.thm c.requires (no_subgoals c.args.self.now.thm c.requires c.subgoals.result c.subgoals.ensures c.if-subgoals-ne0.false) large.0 large.1 large.2
