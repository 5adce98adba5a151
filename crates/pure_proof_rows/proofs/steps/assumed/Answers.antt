use Rattle.std.proofs.Common.{◌≡◌, List}
use Rattle.pure_definitions.specs.Names.{Label}
use Rattle.pure_definitions.specs.Declarations.Decl.{algebra_of}
use Rattle.pure_goal_steps.specs.Steps.{AssumptionStep}
use Rattle.pure_proof_rows.proofs.StepLaws.{theory_content, goes_on}
use Rattle.pure_proof_rows.proofs.steps.assumed.Goals as goal

pub returns : goal.returns
returns c =
    goes_on c.args.theory.now (AssumptionStep (algebra_of c.args.theory.now.declarations)) (λ (rests : List Label). rests ≡ c.args.goal.now.thm.rests) c.args.goal.now.thm
    (theory_content c.args.theory.now c.requires.content) c.assumption-answer.result c.assumption-answer.ensures.answer (c.assumption-answer.ensures.derivable c.requires.content)
