use Rattle.std.proofs.Common.{refl, ap}
use Rattle.pure_logic.specs.Derivable.{Theorem}
use Rattle.pure_goal_rows.proofs.AskedLaws.{equation_made}
use Rattle.pure_goal_rows.proofs.asked.is_equation_for.Goals as goal

pub returns-then-is_alone : goal.returns-then-is_alone
returns-then-is_alone c = λ h.
    equation_made c.args.goal.now c.args.eq.now c.requires (c.if-is_alone.ensures refl) c.goal.inside.prop c.eq.inside.prop (ap (λ (t : Theorem). t.prop) c.goal.view_is) (ap (λ (t : Theorem). t.prop) c.eq.view_is) (c.equates_first.ensures h)
