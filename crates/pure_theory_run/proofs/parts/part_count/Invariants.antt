use Rattle.std.proofs.Common.{◌≡◌, take}
use Rattle.std.specs.List.{sum_by}
use Rattle.pure_graph.proofs.HeaderLemmas.{parts_of}
use Rattle.pure_theory_run.proofs.parts.part_count.Given as goal

-- the parts of the commands so far are counted
abbrev pub invariant-loop-command : goal.invariant-loop-command
invariant-loop-command l = l.count ≡ sum_by parts_of (take l.command-index l.commands)
