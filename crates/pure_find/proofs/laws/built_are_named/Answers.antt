use Rattle.pure_find.proofs.OnceLaws.{built_are_named}
use Rattle.pure_find.proofs.laws.built_are_named.Goals as goal

pub returns : goal.returns
returns c = built_are_named
