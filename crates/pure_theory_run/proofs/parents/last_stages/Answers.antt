use Rattle.std.proofs.Common.{◌∙◌, ◌++◌, List, ap, sym}
use Rattle.std.specs.Option.{option_to_list}
use Rattle.pure_logic.specs.Content.{Content}
use Rattle.pure_theory_run.specs.Outline.{outlines, last_of}
use Rattle.pure_theory_run.proofs.ItemLaws.{outline-at}
use Rattle.pure_theory_run.proofs.OutlineLaws.{lasts-turn}
use Rattle.pure_theory_run.proofs.parents.last_stages.Goals as goal

pub loop-parent-preserved : goal.loop-parent-preserved
loop-parent-preserved c =
    (rw c.deref.ensures at c.in_ok-put_last.ensures) ∙ ap (λ (Qs : List Content). Qs ++ option_to_list (last_of c.parent-item.result.value)) c.loop-parent.invariant
    ∙ sym (lasts-turn (outlines c.args.parents.now) c.loop-parent.parent-index c.parent-item.result.value (outline-at c.args.parents.now c.loop-parent.parent-index c.parent-item.result c.loop-parent-test.true c.parent-item.is))
