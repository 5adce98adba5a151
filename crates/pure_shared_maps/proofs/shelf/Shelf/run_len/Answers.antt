use Rattle.std.proofs.Common.{arith}
use Rattle.pure_shared_maps.proofs.ShelfLaws.{place_within, len_of_run, run_fits}
use Rattle.pure_shared_maps.proofs.shelf.Shelf.run_len.Goals as goal

pub bounds-runs-place : goal.bounds-runs-place
bounds-runs-place g c = place_within c.self.inside.parts.items c.as_slice-runs.result.now _ c.args.place c.args.self.now c.as_slice-runs.ensures.value c.self.invariant c.self.view_is c.requires

pub overflow_cast-result : goal.overflow_cast-result
overflow_cast-result g c =
    let within = place_within c.self.inside.parts.items c.as_slice-runs.result.now _ c.args.place c.args.self.now c.as_slice-runs.ensures.value c.self.invariant c.self.view_is c.requires in
    let long = len_of_run c.self.inside.parts.items c.as_slice-runs.result.now _ c.args.place c.args.self.now c.index-runs-place.result c.deref-run.result.now c.len.result c.as_slice-runs.ensures.value c.self.invariant c.self.view_is within c.index-runs-place.is c.deref-run.ensures c.len.ensures in
    let small = run_fits c.self.inside.parts.items _ c.args.place c.args.self.now c.len.result c.self.invariant c.self.view_is long in
    omega (arith, small)

pub returns : goal.returns
returns g c =
    let within = place_within c.self.inside.parts.items c.as_slice-runs.result.now _ c.args.place c.args.self.now c.as_slice-runs.ensures.value c.self.invariant c.self.view_is c.requires in
    len_of_run c.self.inside.parts.items c.as_slice-runs.result.now _ c.args.place c.args.self.now c.index-runs-place.result c.deref-run.result.now c.len.result c.as_slice-runs.ensures.value c.self.invariant c.self.view_is within c.index-runs-place.is c.deref-run.ensures c.len.ensures
