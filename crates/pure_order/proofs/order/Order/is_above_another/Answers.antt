use Rattle.std.proofs.Common.{◌≡◌, ℕ, inl, inr}
use Rattle.pure_definitions.specs.Types.Order.{IsClassBelow}
use Rattle.pure_text.proofs.AnswerLaws.{yes_as, test_fails}
use Rattle.pure_text.proofs.ListLaws.{any_read}
use Rattle.pure_text.proofs.LoopLaws.{any_turn}
use Rattle.pure_order.proofs.order.Order.is_above_another.Goals as goal

pub returns-then-is_other_below : goal.returns-then-is_other_below
returns-then-is_other_below c = yes_as _ (any_read (λ b. (¬ (b ≡ c.args.class)) × IsClassBelow c.args.self.now b c.args.class) c.args.classes.now c.loop-other.other-index c.other-item.result c.loop-other-test.true c.other-item.is (c.is_other_below.ensures.0 c.if-is_other_below.true))

pub loop-other-preserved : goal.loop-other-preserved
loop-other-preserved c m = elim ((any_turn (λ (b : ℕ). (¬ (b ≡ c.args.class)) × IsClassBelow c.args.self.now b c.args.class) c.args.classes.now c.loop-other.other-index c.other-item.result c.loop-other-test.true c.other-item.is).0 m) [
  | inl before ↦ c.loop-other.invariant before
  | inr here ↦ test_fails _ c.is_other_below.result c.is_other_below.ensures c.if-is_other_below.false here
]
