use Rattle.std.proofs.Common.{◌++◌}
use Rattle.pure_definitions.specs.Declarations.Decl.{algebra_of}
use Rattle.pure_theorem.specs.Sets.{label_cmp, IsSetOf}
use Rattle.pure_goal_steps.specs.State.{State}
use Rattle.pure_goal_steps.specs.Steps.{DestructionStep}
use Rattle.pure_proof_rows.proofs.StepLaws.{theory_content, goes_on, may_use}
use Rattle.pure_proof_rows.proofs.steps.by_drule.Goals as goal

pub drule-answer-requires : goal.drule-answer-requires
drule-answer-requires c = may_use c.args.theory.now c.args.goal.now.thm c.in_ok-fact.fact c.requires.goal c.in_ok-fact.ensures

pub returns : goal.returns
returns c =
    goes_on c.args.theory.now (λ (s : State). DestructionStep (algebra_of c.args.theory.now.declarations) s c.in_ok-fact.fact) (IsSetOf label_cmp (c.args.goal.now.thm.rests ++ c.in_ok-fact.fact.rests)) c.args.goal.now.thm
    (theory_content c.args.theory.now c.requires.content) c.drule-answer.result c.drule-answer.ensures.answer (c.drule-answer.ensures.derivable c.requires.content)
