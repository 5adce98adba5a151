use Rattle.pure_resolve.proofs.EndLaws.{ends_once}
use Rattle.pure_resolve.proofs.laws.end_has_one_outcome.Goals as goal

pub returns : goal.returns
returns c = ends_once
