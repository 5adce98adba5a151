use Rattle.std.proofs.Common.{◌∷◌, ◌+◌, drop, ap, ◌∙◌, sym}
use Rattle.pure_logic.specs.Derivable.{Pair}
use Rattle.pure_unify_steps.proofs.GatherLaws.{drop_here}
use Rattle.pure_unify.proofs.ChoiceLaws.{choice_right, choice_left}
use Rattle.pure_unify.proofs.choice.choice_of.Goals as goal

pub returns-then-not-is_flexible : goal.returns-then-not-is_flexible
returns-then-not-is_flexible c =
    let p : Pair = record { left = c.pair.inside.left; right = c.pair.inside.right } in
    choice_right c.args.pairs.now c.loop-pair.pair-index p _ _ c.requires c.loop-pair.invariant
    (drop_here c.args.pairs.now c.loop-pair.pair-index c.pair-item.result c.loop-pair-test.true c.pair-item.is ∙ ap (λ (q : Pair). q ∷ drop (c.loop-pair.pair-index + 1) c.args.pairs.now) (sym c.pair.view_is))
    (sym c.is_flexible.ensures ∙ c.if-not-is_flexible.true) c.head.ensures c.head-then-not-is_flexible.ensures

pub returns-then-not-is_flexible-2 : goal.returns-then-not-is_flexible-2
returns-then-not-is_flexible-2 c =
    let p : Pair = record { left = c.pair.inside.left; right = c.pair.inside.right } in
    choice_left c.args.pairs.now c.loop-pair.pair-index p _ _ c.loop-pair.invariant
    (drop_here c.args.pairs.now c.loop-pair.pair-index c.pair-item.result c.loop-pair-test.true c.pair-item.is ∙ ap (λ (q : Pair). q ∷ drop (c.loop-pair.pair-index + 1) c.args.pairs.now) (sym c.pair.view_is))
    (sym c.is_flexible.ensures ∙ c.if-not-is_flexible.false) (sym c.is_flexible-in-loop-pair.ensures ∙ c.if-not-is_flexible-2.true)
    c.head-then-not-is_flexible-2.ensures c.head-then-not-is_flexible-2-2.ensures
