use Rattle.std.proofs.Common.{◌≡◌, List}
use Rattle.pure_definitions.specs.Names.{Label}
use Rattle.pure_goal_steps.specs.Steps.{DeferStep}
use Rattle.pure_proof_rows.proofs.StepLaws.{goes_on}
use Rattle.pure_proof_rows.proofs.steps.deferred.Goals as goal

pub defer-answer-requires : goal.defer-answer-requires
defer-answer-requires c = c.requires.is

pub returns : goal.returns
returns c =
    goes_on c.args.theory.now DeferStep (λ (rests : List Label). rests ≡ c.args.goal.now.thm.rests) c.args.goal.now.thm
    c.requires.content c.defer-answer.result c.defer-answer.ensures.answer (c.defer-answer.ensures.derivable c.requires.content c.requires.derivable)
