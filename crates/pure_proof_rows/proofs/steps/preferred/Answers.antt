use Rattle.std.proofs.Common.{◌≡◌, List}
use Rattle.pure_definitions.specs.Names.{Label}
use Rattle.pure_goal_steps.specs.State.{State}
use Rattle.pure_goal_steps.specs.Steps.{PreferStep}
use Rattle.pure_proof_rows.proofs.StepLaws.{goes_on}
use Rattle.pure_proof_rows.proofs.steps.preferred.Goals as goal

pub prefer-answer-requires : goal.prefer-answer-requires
prefer-answer-requires c = c.requires.is

pub returns : goal.returns
returns c =
    goes_on c.args.theory.now (λ (s : State). PreferStep s c.args.n) (λ (rests : List Label). rests ≡ c.args.goal.now.thm.rests) c.args.goal.now.thm
    c.requires.content c.prefer-answer.result c.prefer-answer.ensures.answer (c.prefer-answer.ensures.derivable c.requires.content c.requires.derivable)
