use Rattle.pure_statements.proofs.ChainLaws.{answers-next, answers-failed, fails-answers}
use Rattle.pure_script.specs.Seen.{span}
use Rattle.pure_statements.specs.Quoted.{IsReadTerm}
use Rattle.pure_statements.specs.Statement.{IsStatedTree}
use Rattle.pure_statements.proofs.stated.statement_of.Goals as goal

pub returns-in_err-raw-clause-answer : goal.returns-in_err-raw-clause-answer
returns-in_err-raw-clause-answer g c = answers-failed (IsReadTerm c.args.source.now (span c.args.at)) (IsStatedTree (g.L.Language.vocabulary c.args.language.now)) c.in_err-raw.field-0.0 c.from_residual.result (fails-answers (IsReadTerm c.args.source.now (span c.args.at)) c.in_err-raw.field-0.0 c.in_err-raw.ensures) c.from_residual.ensures.1

pub returns-clause-answer : goal.returns-clause-answer
returns-clause-answer g c = answers-next (IsReadTerm c.args.source.now (span c.args.at)) (IsStatedTree (g.L.Language.vocabulary c.args.language.now)) c.in_ok-raw.raw c.stated_tree.result c.in_ok-raw.ensures c.stated_tree.ensures.answer
