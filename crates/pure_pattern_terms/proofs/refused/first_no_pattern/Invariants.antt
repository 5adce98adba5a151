use Rattle.std.proofs.Common.{take}
use Rattle.pure_text.specs.Lists.{Each}
use Rattle.pure_pattern_laws.specs.Patterns.{IsPatternPair}
use Rattle.pure_pattern_terms.proofs.refused.first_no_pattern.Given as goal

-- the pairs so far are of patterns
abbrev pub invariant-loop-place : goal.invariant-loop-place
invariant-loop-place l = Each IsPatternPair (take l.place l.pairs)
