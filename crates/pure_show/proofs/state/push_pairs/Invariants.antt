use Rattle.std.proofs.Common.{◌≡◌, ◌++◌, drop}
use Rattle.pure_show.specs.Lines.{pair_lines}
use Rattle.pure_show.proofs.state.push_pairs.Given as goal

abbrev pub invariant-loop-pair : goal.invariant-loop-pair
invariant-loop-pair l = l.text.items ++ pair_lines l.names (drop l.pair-index l.pairs) ≡ l.initial.text.items ++ pair_lines l.names l.pairs
