use Rattle.std.proofs.lemmas.Result.{err_from_is_err_and}
use Rattle.pure_theory.specs.Begin.{contents}
use Rattle.pure_theory.proofs.MergeLaws.{merge_first, merge_next, named_once_with, begin_refusal, all_parents}
use Rattle.pure_theory.proofs.begin.merge_of.Goals as goal

pub loop-place-init : goal.loop-place-init
loop-place-init c = merge_first (contents c.args.parents.now) c.parent_at-first.result.now _ c.parent_at-first.ensures.held c.parent_at-first.ensures.sound c.in_ok-merged.ensures

pub grown-requires : goal.grown-requires
grown-requires c = named_once_with (contents c.args.parents.now) c.loop-place.place c.parent_at-parent.result.now c.loop-place.merged c.parent_at-parent.ensures.held c.requires.agreed c.loop-place.invariant.0

pub loop-place-preserved : goal.loop-place-preserved
loop-place-preserved c =
    merge_next (contents c.args.parents.now) c.loop-place.place c.parent_at-parent.result.now c.loop-place.merged _ c.parent_at-parent.ensures.held c.parent_at-parent.ensures.sound c.loop-place.invariant c.in_ok-merged-2.ensures.ok c.in_ok-merged-2.ensures.coregular

pub returns-in_err-merged-2-clause-fault : goal.returns-in_err-merged-2-clause-fault
returns-in_err-merged-2-clause-fault c =
    let p = err_from_is_err_and c.from_residual-in_err-merged-2.result c.from_residual-in_err-merged-2.ensures.1 in
    rw (p.1, p.2) (begin_refusal (contents c.args.parents.now) c.loop-place.place c.parent_at-parent.result.now c.loop-place.merged _ c.parent_at-parent.ensures.held c.loop-place.invariant.0 c.in_err-merged-2.ensures.fault)

pub returns-clause-ok : goal.returns-clause-ok
returns-clause-ok c = (rw (all_parents c.args.parents.now c.loop-place.place c.loop-place-test.false) at c.loop-place.invariant).0

pub returns-clause-sound : goal.returns-clause-sound
returns-clause-sound c = (rw (all_parents c.args.parents.now c.loop-place.place c.loop-place-test.false) at c.loop-place.invariant).1
