use Rattle.pure_text.proofs.AnswerLaws.{test_fails}
use Rattle.pure_statements.specs.Statement.{IsLarge, IsStatedNormal}
use Rattle.pure_statements.proofs.ChainLaws.{answers-memory}
use Rattle.pure_statements.proofs.StatedLaws.{normal-large, normal-stated, normal-statement}
use Rattle.pure_statements.proofs.stated.stated_normal.Goals as goal

pub returns-then-is_large-clause-answer : goal.returns-then-is_large-clause-answer
returns-then-is_large-clause-answer c = normal-large c.args.fixed (c.is_large.ensures.0 c.if-is_large.true)

pub returns-in_err-prop-clause-answer : goal.returns-in_err-prop-clause-answer
returns-in_err-prop-clause-answer c = answers-memory (IsStatedNormal c.args.fixed) c.from_residual.result c.from_residual.ensures.1

pub returns-clause-answer : goal.returns-clause-answer
returns-clause-answer c = normal-stated c.args.fixed c.in_ok-prop.prop (test_fails (IsLarge c.args.fixed) c.is_large.result c.is_large.ensures c.if-is_large.false) c.in_ok-prop.ensures

pub returns-clause-statement : goal.returns-clause-statement
returns-clause-statement c = normal-statement c.args.fixed c.in_ok-prop.prop c.in_ok-prop.ensures
