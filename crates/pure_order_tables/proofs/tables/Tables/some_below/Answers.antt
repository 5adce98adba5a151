use Rattle.pure_definitions.specs.Types.Order.{IsClassBelow}
use Rattle.std.proofs.Common.{inl, inr}
use Rattle.pure_text.proofs.AnswerLaws.{yes_as, test_fails}
use Rattle.pure_text.proofs.ListLaws.{any_read}
use Rattle.pure_text.proofs.LoopLaws.{any_turn}
use Rattle.pure_order_tables.proofs.tables.Tables.some_below.Goals as goal

pub returns-then-below : goal.returns-then-below
returns-then-below c = yes_as _ (any_read (λ b. IsClassBelow c.args.self.now b c.args.class) c.args.classes.now c.loop-lower.lower-index c.lower-item.result c.loop-lower-test.true c.lower-item.is (c.below.ensures.0 c.if-below.true))

pub loop-lower-preserved : goal.loop-lower-preserved
loop-lower-preserved c m = elim ((any_turn (λ b. IsClassBelow c.args.self.now b c.args.class) c.args.classes.now c.loop-lower.lower-index c.lower-item.result c.loop-lower-test.true c.lower-item.is).0 m) [
  | inl before ↦ c.loop-lower.invariant before
  | inr here ↦ test_fails _ c.below.result c.below.ensures c.if-below.false here
]
