use Rattle.pure_statements.proofs.ChainLaws.{answers-next, answers-failed, fails-answers}
use Rattle.pure_script.specs.Seen.{span}
use Rattle.pure_statements.specs.Quoted.{IsReadTyp}
use Rattle.pure_statements.specs.Elaborated.{IsWrittenTyp}
use Rattle.pure_statements.proofs.stated.written_typ.Goals as goal

pub returns-in_err-raw-clause-answer : goal.returns-in_err-raw-clause-answer
returns-in_err-raw-clause-answer g c = answers-failed (IsReadTyp c.args.source.now (span c.args.at)) (IsWrittenTyp (g.L.Language.vocabulary c.args.language.now)) c.in_err-raw.field-0.0 c.from_residual.result (fails-answers (IsReadTyp c.args.source.now (span c.args.at)) c.in_err-raw.field-0.0 c.in_err-raw.ensures) c.from_residual.ensures.1

pub returns-clause-answer : goal.returns-clause-answer
returns-clause-answer g c = answers-next (IsReadTyp c.args.source.now (span c.args.at)) (IsWrittenTyp (g.L.Language.vocabulary c.args.language.now)) c.in_ok-raw.raw c.elaborated_typ.result c.in_ok-raw.ensures c.elaborated_typ.ensures.answer
