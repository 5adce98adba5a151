use Rattle.std.proofs.Common.{◌≡◌, take}
use Rattle.pure_definitions.specs.Terms.Limits.{cut_off}
use Rattle.pure_tunify.specs.Answers.{index_above_pairs}
use Rattle.pure_tunify.proofs.index.index_above_each.Given as goal

abbrev pub invariant-loop-pair : goal.invariant-loop-pair
invariant-loop-pair l = l.most ≡ cut_off (index_above_pairs (take l.pair-index l.pairs))
