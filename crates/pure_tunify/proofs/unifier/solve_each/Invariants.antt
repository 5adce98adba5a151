use Rattle.std.specs.Vec.Iter.{into_iter_items}
use Rattle.pure_tunify.proofs.UnifyLaws.{HasTaken}
use Rattle.pure_tunify.proofs.unifier.solve_each.Given as goal

abbrev pub invariant-loop-pair : goal.invariant-loop-pair
invariant-loop-pair l = HasTaken l.order l.initial.settings.index l.initial.settings.next l.fn.pairs.items (into_iter_items l.pair-iterator) l.settings
