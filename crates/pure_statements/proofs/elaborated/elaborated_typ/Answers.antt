use Rattle.pure_statements.proofs.ElaboratedLaws.{typ-refused, elaborated-fixed}
use Rattle.pure_statements.proofs.elaborated.elaborated_typ.Goals as goal

pub returns-in-Ok-clause-fixed : goal.returns-in-Ok-clause-fixed
returns-in-Ok-clause-fixed g c = elaborated-fixed (g.L.Language.vocabulary c.args.language.now) c.args.raw.now c.in-Ok.typ c.in-Ok.ensures.ok

pub returns-in-Err-clause-answer : goal.returns-in-Err-clause-answer
returns-in-Err-clause-answer g c = typ-refused (g.L.Language.vocabulary c.args.language.now) c.args.raw.now c.in-Err.fault c.failed_elaboration.result c.in-Err.ensures.fault c.failed_elaboration.ensures
