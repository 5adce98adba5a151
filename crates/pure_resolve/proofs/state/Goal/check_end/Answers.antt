use Rattle.std.proofs.Common.{ap, sym, subst}
use Rattle.pure_text.proofs.AnswerLaws.{test_fails}
use Rattle.pure_definitions.specs.Terms.Term.{IsWithin}
use Rattle.pure_resolve.specs.declared.state.Goal.{Goal}
use Rattle.pure_resolve.proofs.EndLaws.{no_subgoals, end_left, end_at_once, end_large_at_once}
use Rattle.pure_resolve.proofs.state.Goal.check_end.Goals as goal

pub returns-then-subgoals-ne0-clause-fault : goal.returns-then-subgoals-ne0-clause-fault
returns-then-subgoals-ne0-clause-fault g c = end_left c.args.self.now.thm c.requires c.subgoals.result c.subgoals.ensures c.if-subgoals-ne0.true

pub returns-then-not-is_within-clause-fault : goal.returns-then-not-is_within-clause-fault
returns-then-not-is_within-clause-fault g c =
    end_large_at_once c.args.self.now.thm c.requires (no_subgoals c.args.self.now.thm c.requires c.subgoals.result c.subgoals.ensures c.if-subgoals-ne0.false) (c.has_no_pairs.ensures c.if-not-has_no_pairs.false)
    (λ w. test_fails _ c.is_within.result c.is_within.ensures c.if-not-is_within.true (subst IsWithin (sym (ap (λ (x : Goal). x.thm.prop) c.self.view_is)) w))

pub returns-clause-proves : goal.returns-clause-proves
returns-clause-proves g c =
    end_at_once c.args.self.now.thm c.requires (no_subgoals c.args.self.now.thm c.requires c.subgoals.result c.subgoals.ensures c.if-subgoals-ne0.false) (c.has_no_pairs.ensures c.if-not-has_no_pairs.false)
    (subst IsWithin (ap (λ (x : Goal). x.thm.prop) c.self.view_is) (c.is_within.ensures.0 c.if-not-is_within.false))
