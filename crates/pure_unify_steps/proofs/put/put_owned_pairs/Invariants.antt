use Rattle.std.specs.Vec.Iter.{into_iter_items}
use Rattle.pure_unify_steps.proofs.LoopLaws.{IsPutOnto}
use Rattle.pure_unify_steps.proofs.put.put_owned_pairs.Given as goal

abbrev pub invariant-loop-pair : goal.invariant-loop-pair
invariant-loop-pair l = IsPutOnto l.setting l.fn.pairs.items (into_iter_items l.pair-iterator) l.made.items
