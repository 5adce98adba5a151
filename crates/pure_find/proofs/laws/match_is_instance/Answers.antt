use Rattle.pure_find.proofs.InstanceLaws.{match_is_instance}
use Rattle.pure_find.proofs.laws.match_is_instance.Goals as goal

pub returns : goal.returns
returns c = match_is_instance
