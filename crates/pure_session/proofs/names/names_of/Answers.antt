use Rattle.pure_session.specs.Waiting.{all_loaded}
use Rattle.pure_session.proofs.PlainLemmas.{others-given}
use Rattle.pure_session.proofs.names.names_of.Goals as goal

pub named-requires-clause-ascend : goal.named-requires-clause-ascend
named-requires-clause-ascend g c = c.in_ok-texts.ensures.ascend

pub named-requires-clause-others : goal.named-requires-clause-others
named-requires-clause-others g c = others-given (all_loaded c.args.theories.now) c.in_ok-texts.texts c.requires (λ t m. (c.in_ok-texts.ensures.given t).0 m)

pub returns : goal.returns
returns g c = rw c.in_ok-names.ensures c.in_ok-texts.ensures
