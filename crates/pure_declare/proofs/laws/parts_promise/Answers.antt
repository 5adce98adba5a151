use Rattle.pure_declare.proofs.PartLaws.{parts_promise}
use Rattle.pure_declare.proofs.laws.parts_promise.Goals as goal

pub returns : goal.returns
returns c = parts_promise
