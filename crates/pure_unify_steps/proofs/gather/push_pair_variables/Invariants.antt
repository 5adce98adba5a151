use Rattle.std.proofs.Common.{◌≡◌, ◌++◌, drop}
use Rattle.pure_unify_definitions.specs.Fronts.{pair_variables}
use Rattle.pure_unify_steps.proofs.gather.push_pair_variables.Given as goal

abbrev pub invariant-loop-pair : goal.invariant-loop-pair
invariant-loop-pair l = l.initial.list.items ++ pair_variables l.pairs ≡ l.list.items ++ pair_variables (drop l.pair-index l.pairs)
