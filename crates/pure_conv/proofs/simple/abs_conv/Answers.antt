use Rattle.pure_equal.specs.Congruence.{GivesAbstraction, RefusesAbstraction}
use Rattle.pure_logic.specs.Derivable.{IsDerivable}
use Rattle.pure_conv.proofs.AnswerLaws.{answer_as, given_as}
use Rattle.pure_conv.proofs.simple.abs_conv.Goals as goal

pub returns-clause-answer : goal.returns-clause-answer
returns-clause-answer g c = answer_as (GivesAbstraction c.args.x.now c.args.th.now) (RefusesAbstraction c.args.x.now c.args.th.now) c.abstraction.result c.conv_answer.result c.conv_answer.ensures c.abstraction.ensures.answer

pub returns-clause-derivable : goal.returns-clause-derivable
returns-clause-derivable g c = λ q h k. given_as (IsDerivable (g.B.Base.content c.args.thy.now)) c.abstraction.result c.conv_answer.result c.conv_answer.ensures (c.abstraction.ensures.derivable q h k)
