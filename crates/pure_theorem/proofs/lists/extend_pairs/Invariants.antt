use Rattle.std.proofs.Common.{◌≡◌, ◌++◌, take}
use Rattle.pure_theorem.proofs.lists.extend_pairs.Given as goal

-- what was put behind so far
abbrev pub invariant-loop-pair : goal.invariant-loop-pair
invariant-loop-pair l = l.list.items ≡ l.initial.list.items ++ take l.pair-index l.pairs
