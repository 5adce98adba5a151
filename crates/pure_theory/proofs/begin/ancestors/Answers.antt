use Rattle.pure_theory.specs.Begin.{contents}
use Rattle.pure_theory.proofs.MergeLaws.{all_parents}
use Rattle.pure_theory.proofs.OnceLaws.{theories_turn, all_theories}
use Rattle.pure_theory.proofs.begin.ancestors.Goals as goal

pub loop-place-preserved : goal.loop-place-preserved
loop-place-preserved c = theories_turn (contents c.args.parents.now) c.loop-place.place c.parent_at-parent.result.now c.loop-place.theories.items c.put_theories.new.theories.items c.parent_at-parent.ensures.held c.loop-place.invariant c.in_ok-put_theories.ensures

pub returns : goal.returns
returns c =
    let all = rw (all_parents c.args.parents.now c.loop-place.place c.loop-place-test.false) at c.loop-place.invariant in
    rw c.in_ok-theories.ensures (all_theories (contents c.args.parents.now) c.loop-place.theories.items all)
