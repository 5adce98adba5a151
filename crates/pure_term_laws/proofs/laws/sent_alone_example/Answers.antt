use Rattle.pure_term_laws.proofs.MapLaws.{sent-alone_example}
use Rattle.pure_term_laws.proofs.laws.sent_alone_example.Goals as goal

pub returns : goal.returns
returns c = sent-alone_example
