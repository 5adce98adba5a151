use Rattle.pure_definitions.specs.Types.Typ.{prop}
use Rattle.pure_elab.proofs.CallLaws.{prop_is_fixed, general_at}
use Rattle.pure_elab.proofs.CertifiedAnswerLaws.{all_propositions}
use Rattle.pure_elab.proofs.calls.elaborate.Goals as goal

pub returns-clause-general : goal.returns-clause-general
returns-clause-general g c = general_at (g.L.Language.vocabulary c.args.language.now) c.args.raw.now c.prop-typ.result prop c.elaborate_to.result c.prop-typ.ensures prop_is_fixed c.elaborate_to.ensures.ok

pub returns-clause-certified : goal.returns-clause-certified
returns-clause-certified g c = all_propositions (g.L.Language.vocabulary c.args.language.now) c.args.raw.now c.prop-typ.result c.elaborate_to.result c.prop-typ.ensures c.elaborate_to.ensures.ok
