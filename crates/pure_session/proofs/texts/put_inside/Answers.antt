use Rattle.pure_graph.specs.SessionNames.{GivesInside}
use Rattle.pure_session.proofs.SetLemmas.{gains-nothing}
use Rattle.pure_session.proofs.texts.put_inside.Goals as goal

pub returns-in_default : goal.returns-in_default
returns-in_default c = gains-nothing c.args.texts.now (GivesInside c.args.source.now c.args.token.now) (λ t g. c.in_default.not-Quote g.0)
