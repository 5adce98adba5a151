use Rattle.std.proofs.Common.{◌≡◌, map, take}
use Rattle.pure_pairs.specs.Smash.{pair_with}
use Rattle.pure_pairs.proofs.theorem.pairs_with.Given as goal

abbrev pub invariant-loop-other : goal.invariant-loop-other
invariant-loop-other l = l.made.items ≡ map (pair_with l.pair l.c) (take l.other-index l.others)
