use Rattle.std.proofs.Common.{◌++◌, ap, sym, ◌∙◌}
use Rattle.pure_logic.specs.Derivable.{Theorem}
use Rattle.pure_theorem.specs.Sets.{label_cmp, IsSetOf}
use Rattle.pure_resolve.proofs.CallLaws.{goal_left_typed, convert_united, convert_derivable}
use Rattle.pure_resolve.proofs.StepLaws.{convert_stopped}
use Rattle.pure_resolve.specs.declared.state.Goal.{Goal}
use Rattle.pure_resolve.proofs.state.Goal.convert.Goals as goal

pub returns-in-Err-clause-answer : goal.returns-in-Err-clause-answer
returns-in-Err-clause-answer g c =
    convert_stopped c.args.self.now.thm c.args.eq.now c.requires.goal c.requires.equation c.in-Some.field-0-0.now c.in-Some.field-0-1.now c.in-Some.right.now
    (ap (λ (t : Theorem). t.prop) (sym c.eq.view_is) ∙ c.in-Some.ensures) (IsSetOf label_cmp (c.args.self.now.thm.rests ++ c.args.eq.now.rests)) c.in-Err.fault c.in-Err.ensures

pub united_goal-requires : goal.united_goal-requires
united_goal-requires g c = goal_left_typed c.args.self.now.thm c.requires.goal

pub returns-clause-answer : goal.returns-clause-answer
returns-clause-answer g c =
    convert_united c.args.self.now.thm c.args.eq.now c.requires.goal c.requires.equation c.in-Some.field-0-0.now c.in-Some.field-0-1.now c.in-Some.right.now
    (ap (λ (t : Theorem). t.prop) (sym c.eq.view_is) ∙ c.in-Some.ensures) c.in-Ok.long c.in-Ok.ensures c.in_ok-prop.prop
    (λ A B e. c.in_ok-prop.ensures A B (ap (λ (x : Goal). x.thm.prop) c.self.view_is ∙ e)) c.united_goal.result c.united_goal.ensures

pub returns-clause-derivable : goal.returns-clause-derivable
returns-clause-derivable g c = λ q h k. convert_derivable (g.B.Base.content c.args._thy.now) c.args.self.now.thm c.args.eq.now c.requires.equation c.united_goal.result (returns-clause-answer g c) q h k
