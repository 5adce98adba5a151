use Rattle.pure_equal.specs.Congruence.{GivesCombination, RefusesCombination}
use Rattle.pure_logic.specs.Derivable.{IsDerivable}
use Rattle.pure_conv.proofs.AnswerLaws.{answer_as, given_as}
use Rattle.pure_conv.proofs.simple.comb_conv.Goals as goal

pub returns-clause-answer : goal.returns-clause-answer
returns-clause-answer g c = answer_as (GivesCombination c.args.f.now c.args.x.now) (RefusesCombination c.args.f.now c.args.x.now) c.combination.result c.conv_answer.result c.conv_answer.ensures c.combination.ensures.answer

pub returns-clause-derivable : goal.returns-clause-derivable
returns-clause-derivable g c = λ q h k. given_as (IsDerivable (g.B.Base.content c.args.thy.now)) c.combination.result c.conv_answer.result c.conv_answer.ensures (c.combination.ensures.derivable q h k)
