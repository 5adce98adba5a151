use Rattle.pure_statements.proofs.NormalLaws.{own-normal_form}
use Rattle.pure_statements.proofs.normal.normal_form_of.Goals as goal

pub returns-then-is_own_normal_form-clause-answer : goal.returns-then-is_own_normal_form-clause-answer
returns-then-is_own_normal_form-clause-answer c = let own = c.is_own_normal_form.ensures c.if-is_own_normal_form.true in own-normal_form c.args.t own.0 own.1

pub returns-then-is_own_normal_form-clause-certified : goal.returns-then-is_own_normal_form-clause-certified
returns-then-is_own_normal_form-clause-certified c = λ Q T h. h
