use Rattle.std.proofs.Common.{ap, ◌∙◌}
use Rattle.pure_shared_maps.proofs.ShelfLaws.{run_ascends, found_in_run, not_in_run}
use Rattle.pure_shared_maps.proofs.runs.found_in.Goals as goal

pub found-requires : goal.found-requires
found-requires g c =
    run_ascends c.args.runs.now c.loop-pointer.pointer-index c.pointer-item.result c.as_slice.result.now c.loop-pointer-test.true c.pointer-item.is
    (c.as_slice.ensures.value ∙ ap (λ v. v.items) c.deref-run.ensures) c.requires

pub returns-in-Some : goal.returns-in-Some
returns-in-Some g c =
    found_in_run c.args.runs.now c.loop-pointer.pointer-index c.pointer-item.result c.as_slice.result.now c.args.key _ _ c.loop-pointer-test.true c.pointer-item.is
    (c.as_slice.ensures.value ∙ ap (λ v. v.items) c.deref-run.ensures) c.loop-pointer.invariant c.in-Some.ensures

pub loop-pointer-preserved : goal.loop-pointer-preserved
loop-pointer-preserved g c =
    not_in_run c.args.runs.now c.loop-pointer.pointer-index c.pointer-item.result c.as_slice.result.now c.args.key _ c.loop-pointer-test.true c.pointer-item.is
    (c.as_slice.ensures.value ∙ ap (λ v. v.items) c.deref-run.ensures) c.loop-pointer.invariant c.in_default.ensures
