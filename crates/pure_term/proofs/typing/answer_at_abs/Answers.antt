use Rattle.pure_term.proofs.AnswerLemmas.{fault-body}
use Rattle.pure_term.proofs.typing.answer_at_abs.Goals as goal

pub returns-in-Err : goal.returns-in-Err
returns-in-Err c = λ bs t h. fault-body bs c.args.domain.now t c.args.body c.in-Err.fault c.deeper.result c.in-Err.is c.deeper.ensures h
