use Rattle.pure_declare.proofs.PromisedLaws.{declares_promises}
use Rattle.pure_declare.proofs.laws.declares_promises.Goals as goal

pub returns : goal.returns
returns c = declares_promises
