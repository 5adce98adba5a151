use Rattle.pure_unify_steps.proofs.LoopLaws.{IsPutSoFar}
use Rattle.pure_unify_steps.proofs.put.put_pairs.Given as goal

abbrev pub invariant-loop-pair : goal.invariant-loop-pair
invariant-loop-pair l = IsPutSoFar l.setting l.pairs l.pair-index l.made.items
