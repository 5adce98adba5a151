use Rattle.std.proofs.Common.{◌≡◌, List}
use Rattle.pure_definitions.specs.Names.{Label}
use Rattle.pure_definitions.specs.Declarations.Decl.{algebra_of}
use Rattle.pure_resolve.specs.GoalSteps.Steps.{AssumptionStep}
use Rattle.pure_method.proofs.StepAnswers.{goes_on}
use Rattle.pure_method.proofs.step.assumed.Goals as goal

pub returns-clause-may : goal.returns-clause-may
returns-clause-may g c =
    goes_on c.args.theory.now (AssumptionStep (algebra_of c.args.theory.now.declarations)) (λ (rests : List Label). rests ≡ c.args.goal.now.thm.rests) c.args.goal.now.thm
    c.requires.goal.content c.assumption_while-answer.result c.assumption_while-answer.ensures.answer (c.assumption_while-answer.ensures.derivable c.requires.content)
