use Rattle.std.proofs.Common.{◌≡◌, take}
use Rattle.pure_unify.proofs.sharing.shared_pairs.Given as goal

abbrev pub invariant-loop-pair : goal.invariant-loop-pair
invariant-loop-pair l = l.made.items ≡ take l.pair-index l.pairs
