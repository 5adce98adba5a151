use Rattle.std.proofs.Common.{take}
use Rattle.pure_text.specs.Lists.{Each}
use Rattle.pure_theorem.specs.First.{OccursInPair}
use Rattle.pure_theorem.proofs.fresh.first_pair_with.Given as goal

-- it occurs in none of the pairs so far
abbrev pub invariant-loop-place : goal.invariant-loop-place
invariant-loop-place l = Each (λ p. ¬ OccursInPair l.variable p) (take l.place l.pairs)
