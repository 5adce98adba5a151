use Rattle.pure_method.proofs.InLemmaLaws.{nothing_is_local}
use Rattle.pure_method.proofs.laws.nothing_is_local.Goals as goal

pub returns : goal.returns
returns c = nothing_is_local
