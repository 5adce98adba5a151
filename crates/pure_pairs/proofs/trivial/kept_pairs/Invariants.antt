use Rattle.std.proofs.Common.{◌≡◌, take}
use Rattle.pure_pairs.specs.Trivial.{without_trivial}
use Rattle.pure_pairs.proofs.trivial.kept_pairs.Given as goal

-- those of the pairs so far
abbrev pub invariant-loop-pair : goal.invariant-loop-pair
invariant-loop-pair l = l.kept.items ≡ without_trivial (take l.pair-index l.pairs)
