use Rattle.std.proofs.Common.{◌≡◌, ◌++◌, drop}
use Rattle.std.specs.List.{flat_map}
use Rattle.pure_print.specs.Growing.{status_count_text}
use Rattle.pure_print.proofs.table.push_counts.Given as goal

-- what is written, and the counts that are left
abbrev pub invariant-loop-status : goal.invariant-loop-status
invariant-loop-status l = l.text.items ++ flat_map (status_count_text l.given) (drop l.status-index l.statuses) ≡ l.initial.text.items ++ flat_map (status_count_text l.given) l.statuses
