use Rattle.std.proofs.Common.{◌∙◌, ap, sym}
use Rattle.pure_logic.specs.Derivable.{Pair}
use Rattle.pure_pattern_rules.proofs.TreatedLaws.{equal_treated, left_mixed, right_mixed}
use Rattle.pure_pattern_rules.proofs.treatment.treated.Goals as goal

pub returns-then-are_equal-clause-treated : goal.returns-then-are_equal-clause-treated
returns-then-are_equal-clause-treated c =
    equal_treated c.args.index c.args.pair.now c.pair.inside.left c.pair.inside.right _ (ap (λ (p : Pair). p.left) (sym c.pair.view_is)) (ap (λ (p : Pair). p.right) (sym c.pair.view_is)) (c.are_equal.ensures.0 c.if-are_equal.true) c.new.ensures.items

pub returns-then-is_flexible-clause-treated : goal.returns-then-is_flexible-clause-treated
returns-then-is_flexible-clause-treated c =
    left_mixed c.args.index c.args.pair.now c.pair.inside.left c.pair.inside.right c.mixed.result (ap (λ (p : Pair). p.left) (sym c.pair.view_is)) (ap (λ (p : Pair). p.right) (sym c.pair.view_is)) (sym c.is_flexible.ensures ∙ c.if-is_flexible.true)
    (sym c.is_flexible-then-is_flexible.ensures ∙ c.if-is_flexible-2.false) c.mixed.ensures.treated

pub returns-then-is_flexible-3-clause-treated : goal.returns-then-is_flexible-3-clause-treated
returns-then-is_flexible-3-clause-treated c =
    right_mixed c.args.index c.args.pair.now c.pair.inside.left c.pair.inside.right c.mixed-then-is_flexible-3.result (ap (λ (p : Pair). p.left) (sym c.pair.view_is)) (ap (λ (p : Pair). p.right) (sym c.pair.view_is)) (sym c.is_flexible.ensures ∙ c.if-is_flexible.false)
    (sym c.is_flexible-2.ensures ∙ c.if-is_flexible-3.true) c.mixed-then-is_flexible-3.ensures.treated

pub returns-clause-treated : goal.returns-clause-treated
returns-clause-treated c = c.both_rigid.ensures.treated c.args.index
