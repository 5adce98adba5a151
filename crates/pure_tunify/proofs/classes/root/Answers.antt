use Rattle.std.proofs.Common.{◌∙◌}
use Rattle.pure_tunify.proofs.GraphClassLaws.{keeps_read}
use Rattle.pure_tunify.proofs.classes.root.Goals as goal

pub loop-at-preserved : goal.loop-at-preserved
loop-at-preserved c = λ v kept.
    let now = c.loop-at.invariant v kept in
    let up = keeps_read v c.loop-at.parent.items c.as_slice.result.now c.loop-at.at c.number_at-next.result now.0 c.as_slice.ensures.value c.number_at-next.ensures in
    let over = keeps_read v c.loop-at.parent.items c.as_slice-in-loop-at.result.now c.number_at-next.result c.number_at-over.result now.0 c.as_slice-in-loop-at.ensures.value c.number_at-over.ensures in
    (c.set_at.ensures v now.0 (up ∙ over), now.1 ∙ (up ∙ over))
