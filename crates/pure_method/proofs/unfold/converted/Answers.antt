use Rattle.std.proofs.Common.{◌++◌}
use Rattle.pure_theorem.specs.Sets.{label_cmp, IsSetOf}
use Rattle.pure_method.specs.Unfolding.{all_rests}
use Rattle.pure_method.proofs.ChainedLaws.{first-proposition, equation-for, unfold-converted, unfold-fault}
use Rattle.pure_method.proofs.unfold.converted.Goals as goal

pub chained-requires-clause-proposition : goal.chained-requires-clause-proposition
chained-requires-clause-proposition c = first-proposition c.args.theory.now c.args.goal.now.thm c.requires.goal c.args.first.now c.requires.first

pub convert-answer-requires-clause-equation : goal.convert-answer-requires-clause-equation
convert-answer-requires-clause-equation c = equation-for c.args.theory.now c.args.goal.now.thm c.requires.goal c.args.first.now c.requires.first c.in-Ok.ensures.0 c.in-Ok.equation c.in-Ok.ensures.2

pub returns-in-Ok-clause-answer : goal.returns-in-Ok-clause-answer
returns-in-Ok-clause-answer c =
    unfold-converted c.args.theory.now c.args.goal.now.thm c.requires.goal c.args.first.now c.requires.first c.args.facts.now c.in-Ok.equation c.in-Ok.ensures c.convert-answer.result c.convert-answer.ensures.answer

pub returns-in-Err-clause-answer : goal.returns-in-Err-clause-answer
returns-in-Err-clause-answer c =
    unfold-fault c.args.theory.now c.args.goal.now.thm c.requires.goal c.args.first.now c.requires.first c.args.facts.now (IsSetOf label_cmp (c.args.goal.now.thm.rests ++ all_rests c.args.facts.now)) c.in-Err.fault c.in-Err.ensures
