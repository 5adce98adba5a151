use Rattle.pure_shared_maps.proofs.ShelfLaws.{empty_shelf}
use Rattle.pure_shared_maps.proofs.shelf.Shelf.empty.Goals as goal

pub invariant_of-result : goal.invariant_of-result
invariant_of-result g c = empty_shelf _ c.new.ensures.items
