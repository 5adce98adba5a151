use Rattle.pure_unify_nodes.proofs.LongLemmas.{HasBrought}
use Rattle.pure_unify_nodes.proofs.long.long_pairs.Given as goal

-- what is left comes to what the whole comes to
abbrev pub invariant-loop-pair : goal.invariant-loop-pair
invariant-loop-pair l = HasBrought l.pairs l.pair-index l.long.items
