use Rattle.std.proofs.Common.{◌≡◌, ◌∙◌, ap}
use Rattle.pure_definitions.specs.Terms.Term.{Const, Abs}
use Rattle.pure_inst.specs.Renaming.{renamed}
use Rattle.pure_inst.proofs.renaming.+renamed_part.Goals as goal

pub returns-then-stays : goal.returns-then-stays
returns-then-stays t c =
    let same : renamed c.args.renaming.now c.args.t.now.value ≡ c.args.t.now.value = rw (← c.deref-whole.ensures) (c.stays.ensures c.if-stays.true) in
    rw same c.try_clone.ensures

pub returns-in_ok-new-in-Const : goal.returns-in_ok-new-in-Const
returns-in_ok-new-in-Const t c = rw (← c.deref-whole.ensures, ← c.whole.view_is, c.in-Const.is) (c.in_ok-new-in-Const.ensures.ok ∙ ap (Const c.in-Const.name) c.in_ok-typ-in-Const.ensures)

pub returns-in_ok-new-in-Abs : goal.returns-in_ok-new-in-Abs
returns-in_ok-new-in-Abs t c =
    rw (← c.deref-whole.ensures, ← c.whole.view_is, c.in-Abs.is) (c.in_ok-new-in-Abs.ensures.ok ∙ c.abs.ensures ∙ (λ i. Abs (c.in_ok-typ-in-Abs.ensures i) (c.in_ok-body-in-Abs.ensures i)))
