use Rattle.std.proofs.Common.{◌≡◌, ◌∙◌, ap, arith}
use Rattle.pure_definitions.specs.Terms.Term.{Const, Free, Var, Abs}
use Rattle.pure_goal_rules.proofs.StayLaws.{raised_stays}
use Rattle.pure_goal_rules.proofs.raising.+raised_part.Goals as goal

pub returns-then-index_above_of-eq0 : goal.returns-then-index_above_of-eq0
returns-then-index_above_of-eq0 t c = rw (raised_stays c.args.by c.args.t.now.value (rw (← c.deref-whole.ensures) (omega arith))) c.try_clone.ensures

pub returns-in_ok-new-in-Const : goal.returns-in_ok-new-in-Const
returns-in_ok-new-in-Const t c = rw (← c.deref-whole.ensures, ← c.whole.view_is, c.in-Const.is) (c.in_ok-new-in-Const.ensures.ok ∙ ap (Const c.in-Const.name) c.in_ok-typ-in-Const.ensures)

pub returns-in_ok-new-in-Free : goal.returns-in_ok-new-in-Free
returns-in_ok-new-in-Free t c = rw (← c.deref-whole.ensures, ← c.whole.view_is, c.in-Free.is) (c.in_ok-new-in-Free.ensures.ok ∙ ap (Free c.in-Free.name) c.in_ok-typ-in-Free.ensures)

pub returns-in_ok-new-in-Var : goal.returns-in_ok-new-in-Var
returns-in_ok-new-in-Var t c = rw (← c.deref-whole.ensures, ← c.whole.view_is, c.in-Var.is) (c.in_ok-new-in-Var.ensures.ok ∙ (λ i. Var c.in-Var.name (c.in_ok-index-in-Var.ensures i) (c.in_ok-typ-in-Var.ensures i)))

pub returns-in_ok-new-in-Abs : goal.returns-in_ok-new-in-Abs
returns-in_ok-new-in-Abs t c =
    rw (← c.deref-whole.ensures, ← c.whole.view_is, c.in-Abs.is) (c.in_ok-new-in-Abs.ensures.ok ∙ c.abs.ensures ∙ (λ i. Abs (c.in_ok-typ-in-Abs.ensures i) (c.in_ok-body-in-Abs.ensures i)))
