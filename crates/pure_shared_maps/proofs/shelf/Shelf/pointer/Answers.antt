use Rattle.pure_shared_maps.proofs.ShelfLaws.{all_runs}
use Rattle.pure_shared_maps.proofs.shelf.Shelf.pointer.Goals as goal

pub found_in-requires : goal.found_in-requires
found_in-requires g c = rw c.as_slice.ensures.value c.self.invariant.ascend

pub returns : goal.returns
returns g c =
    let is = all_runs c.self.inside.parts.items c.as_slice.result.now c.args.key c.args.self.now c.as_slice.ensures.value c.self.view_is in
    rw is c.found_in.ensures
