use Rattle.std.proofs.Common.{◌≡◌, ◌++◌, drop}
use Rattle.pure_unify_definitions.specs.Node.{entry_variables}
use Rattle.pure_unify_steps.proofs.gather.push_entries.Given as goal

abbrev pub invariant-loop-bind : goal.invariant-loop-bind
invariant-loop-bind l = l.initial.list.items ++ entry_variables l.bind-items ≡ l.list.items ++ entry_variables (drop l.bind-index l.bind-items)
