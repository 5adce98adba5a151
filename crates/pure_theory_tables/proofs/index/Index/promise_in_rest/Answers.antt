use Rattle.std.proofs.Common.{inl, inr}
use Rattle.pure_text.proofs.LoopLaws.{in_turn}
use Rattle.pure_theory_tables.proofs.index.Index.promise_in_rest.Goals as goal

pub loop-name-preserved : goal.loop-name-preserved
loop-name-preserved c x A m e = elim ((in_turn x c.rest-name-items.result.now c.loop-name.name-index c.name-item.result c.loop-name-test.true c.name-item.is).0 m) [
  | inl before ↦ c.loop-name.invariant x A before e
  | inr here ↦ c.in_default.ensures A (rw here at e)
]
