use Rattle.std.proofs.Common.{◌≡◌, map, take}
use Rattle.pure_pairs.specs.Smash.{with_constants}
use Rattle.pure_pairs.proofs.theorem.terms_with.Given as goal

abbrev pub invariant-loop-term : goal.invariant-loop-term
invariant-loop-term l = l.made.items ≡ map (with_constants l.pair l.c) (take l.term-index l.terms)
