use Rattle.pure_find.proofs.InstanceLaws.{no_match_is_final}
use Rattle.pure_find.proofs.laws.no_match_is_final.Goals as goal

pub returns : goal.returns
returns c = no_match_is_final
