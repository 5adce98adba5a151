use Rattle.pure_find.proofs.OnceLaws.{found_once}
use Rattle.pure_find.proofs.laws.found_once.Goals as goal

pub returns : goal.returns
returns c = found_once
