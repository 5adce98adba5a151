use Rattle.pure_elab.proofs.CallLaws.{general_at}
use Rattle.pure_elab.proofs.CertifiedAnswerLaws.{all_certified}
use Rattle.pure_elab.proofs.calls.elaborate_at.Goals as goal

pub returns-clause-general : goal.returns-clause-general
returns-clause-general g c = general_at (g.L.Language.vocabulary c.args.language.now) c.args.raw.now c.in_ok-copy.copy c.args.typ.now c.elaborate_to.result c.in_ok-copy.ensures c.requires c.elaborate_to.ensures.ok

pub returns-clause-certified : goal.returns-clause-certified
returns-clause-certified g c = all_certified (g.L.Language.vocabulary c.args.language.now) c.args.raw.now c.in_ok-copy.copy c.args.typ.now c.elaborate_to.result c.in_ok-copy.ensures c.requires c.elaborate_to.ensures.ok
