use Rattle.std.proofs.Common.{refl, ap, ◌∙◌}
use Rattle.pure_logic.specs.Derivable.{Theorem}
use Rattle.pure_goal_rows.proofs.AskedLaws.{goal_made}
use Rattle.pure_goal_rows.proofs.asked.is_goal.Goals as goal

pub returns-then-are_left : goal.returns-then-are_left
returns-then-are_left c = λ h.
    goal_made c.args.th.now c.as_slice.result.now c.deref.result.now c.th.inside.prop (c.as_slice.ensures.value ∙ ap (λ (t : Theorem). t.hyps) c.th.view_is) (c.deref.ensures.value ∙ ap (λ (t : Theorem). t.pairs) c.th.view_is)
    (ap (λ (t : Theorem). t.prop) c.th.view_is) c.if-as_slice-ne0.false (c.if-are_left.ensures refl) (c.is_goal_proposition.ensures h)
