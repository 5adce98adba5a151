use Rattle.std.proofs.Common.{◌≡◌, ◌++◌, reverse, vec_len}
use Rattle.pure_unify_visits.proofs.scan.move_back.Given as goal

abbrev pub invariant-loop-pair : goal.invariant-loop-pair
invariant-loop-pair l = l.list.items ++ reverse l.pairs.items ≡ l.initial.list.items ++ reverse l.initial.pairs.items

abbrev pub decreases-loop-pair : goal.decreases-loop-pair
decreases-loop-pair l = vec_len l.pairs
