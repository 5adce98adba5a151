use Rattle.std.proofs.Common.{◌≡◌, drop}
use Rattle.pure_machine.specs.Parts.{all_regrouped}
use Rattle.pure_machine.proofs.grouped.Grouped.cancel.Given as goal

-- what the groups that are left make of the promises is what all make of those at the start
abbrev pub invariant-loop-group : goal.invariant-loop-group
invariant-loop-group g l = all_regrouped l.self (drop l.group-index l.groups) ≡ all_regrouped l.fn.self l.groups
