use Rattle.pure_shared_maps.specs.View.{runs_of}
use Rattle.pure_shared_maps.proofs.ShelfLaws.{new_run, can_take, more_shelf, more_map}
use Rattle.pure_shared_maps.proofs.shelf.Shelf.with.Goals as goal

pub grown-requires : goal.grown-requires
grown-requires g c =
    rw c.as_slice.ensures.value (can_take (runs_of c.self.inside.parts.items) _ _ _ c.args.self.now c.self.invariant c.self.view_is c.requires.room (new_run _ _ (record { key = c.args.key; value = c.args.value }) c.new-run.ensures.items c.in_ok-push.ensures.items))

pub invariant_of-result : goal.invariant_of-result
invariant_of-result g c =
    more_shelf (runs_of c.self.inside.parts.items) _ (runs_of c.in_ok-parts.parts.items) _ c.args.key c.args.value.value c.args.self.now c.self.invariant c.self.view_is c.requires.fresh
    (new_run _ _ (record { key = c.args.key; value = c.args.value }) c.new-run.ensures.items c.in_ok-push.ensures.items)
    (rw c.as_slice.ensures.value at c.in_ok-parts.ensures)

pub returns : goal.returns
returns g c =
    more_map (runs_of c.self.inside.parts.items) _ (runs_of c.in_ok-parts.parts.items) c.args.key c.args.value.value c.args.self.now c.self.view_is c.requires.fresh
    (new_run _ _ (record { key = c.args.key; value = c.args.value }) c.new-run.ensures.items c.in_ok-push.ensures.items)
    (rw c.as_slice.ensures.value at c.in_ok-parts.ensures)
