use Rattle.pure_places.proofs.FoundLaws.{finds_parts}
use Rattle.pure_places.proofs.laws.finds_parts.Goals as goal

pub returns : goal.returns
returns c = finds_parts
