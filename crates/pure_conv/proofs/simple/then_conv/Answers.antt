use Rattle.pure_equal.specs.Equivalence.{GivesTransitive, RefusesTransitive}
use Rattle.pure_logic.specs.Derivable.{IsDerivable}
use Rattle.pure_conv.proofs.AnswerLaws.{answer_as, given_as}
use Rattle.pure_conv.proofs.simple.then_conv.Goals as goal

pub returns-clause-answer : goal.returns-clause-answer
returns-clause-answer g c = answer_as (GivesTransitive c.args.a.now c.args.b.now) (RefusesTransitive c.args.a.now c.args.b.now) c.transitive.result c.conv_answer.result c.conv_answer.ensures c.transitive.ensures.answer

pub returns-clause-derivable : goal.returns-clause-derivable
returns-clause-derivable g c = λ q h k. given_as (IsDerivable (g.B.Base.content c.args.thy.now)) c.transitive.result c.conv_answer.result c.conv_answer.ensures (c.transitive.ensures.derivable q h k)
