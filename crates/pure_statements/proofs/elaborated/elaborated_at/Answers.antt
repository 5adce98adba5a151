use Rattle.pure_term_laws.proofs.TypingLaws.{typed-closed}
use Rattle.pure_statements.proofs.ElaboratedLaws.{term-refused}
use Rattle.pure_statements.proofs.elaborated.elaborated_at.Goals as goal

pub returns-in-Ok-clause-closed : goal.returns-in-Ok-clause-closed
returns-in-Ok-clause-closed g c = typed-closed c.in-Ok.term c.args.typ.now c.in-Ok.ensures.general.typed

pub returns-in-Err-clause-answer : goal.returns-in-Err-clause-answer
returns-in-Err-clause-answer g c = term-refused (g.L.Language.vocabulary c.args.language.now) c.args.typ.now c.args.raw.now c.in-Err.fault c.failed_elaboration.result c.in-Err.ensures.fault c.failed_elaboration.ensures
