use Rattle.pure_shared_maps.proofs.GrownLaws.{values_same}
use Rattle.pure_shared_maps.proofs.list.shared.Goals as goal

pub returns : goal.returns
returns g c = values_same _ _ c.in_ok-copies.ensures.items
