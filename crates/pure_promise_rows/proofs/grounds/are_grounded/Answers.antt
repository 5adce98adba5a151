use Rattle.pure_text.proofs.LoopLaws.{each_turn}
use Rattle.pure_promise.specs.Joining.{IsClosed, IsGrounded}
use Rattle.pure_promise_rows.proofs.grounds.are_grounded.Goals as goal

pub loop-lemma-preserved : goal.loop-lemma-preserved
loop-lemma-preserved c = (
  each_turn IsClosed c.args.lemmas.now c.loop-lemma.lemma-index c.lemma-item.result c.loop-lemma-test.true c.lemma-item.is c.loop-lemma.invariant.0 (c.is_closed.ensures c.if-not-is_closed.false),
  each_turn (IsGrounded c.args.lemmas.now) c.args.lemmas.now c.loop-lemma.lemma-index c.lemma-item.result c.loop-lemma-test.true c.lemma-item.is c.loop-lemma.invariant.1 (c.is_grounded.ensures c.if-not-is_grounded.false),
)
