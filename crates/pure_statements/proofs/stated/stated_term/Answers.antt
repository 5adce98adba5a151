use Rattle.pure_definitions.specs.Types.Typ.{prop}
use Rattle.pure_statements.specs.Statement.{IsNormalised, IsStatedNormal}
use Rattle.pure_statements.proofs.ChainLaws.{answers-next, answers-failed, fails-answers}
use Rattle.pure_statements.proofs.StatedLaws.{if-ok}
use Rattle.pure_statements.proofs.stated.stated_term.Goals as goal

pub returns-in_err-fixed-clause-answer : goal.returns-in_err-fixed-clause-answer
returns-in_err-fixed-clause-answer c = answers-failed (IsNormalised c.args.term) (IsStatedNormal) c.in_err-fixed.field-0.0 c.from_residual.result (fails-answers (IsNormalised c.args.term) c.in_err-fixed.field-0.0 c.in_err-fixed.ensures.answer) c.from_residual.ensures.1

pub returns-clause-answer : goal.returns-clause-answer
returns-clause-answer c = answers-next (IsNormalised c.args.term) (IsStatedNormal) c.in_ok-fixed.fixed c.stated_normal.result c.in_ok-fixed.ensures.answer c.stated_normal.ensures.answer

pub returns-clause-statement : goal.returns-clause-statement
returns-clause-statement c = if-ok _ _ (λ s h Q content is. h Q content (c.in_ok-fixed.ensures.certified Q prop is)) c.stated_normal.result c.stated_normal.ensures.statement
