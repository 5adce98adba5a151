use Rattle.pure_theorem.specs.Answer.{NoRefusal}
use Rattle.pure_equal.specs.Equivalence.{GivesReflexive}
use Rattle.pure_logic.specs.Derivable.{IsDerivable}
use Rattle.pure_conv.proofs.AnswerLaws.{answer_as, given_as}
use Rattle.pure_conv.proofs.simple.all_conv.Goals as goal

pub returns-clause-answer : goal.returns-clause-answer
returns-clause-answer g c = answer_as (GivesReflexive c.args.t.now) (NoRefusal) c.reflexive.result c.conv_answer.result c.conv_answer.ensures c.reflexive.ensures.answer

pub returns-clause-derivable : goal.returns-clause-derivable
returns-clause-derivable g c = λ q h. given_as (IsDerivable (g.B.Base.content c.args.thy.now)) c.reflexive.result c.conv_answer.result c.conv_answer.ensures (c.reflexive.ensures.derivable q h)
