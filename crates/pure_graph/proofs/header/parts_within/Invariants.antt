use Rattle.std.proofs.Common.{◌≡◌, ◌≤◌, take}
use Rattle.std.specs.List.{sum_by}
use Rattle.pure_graph.proofs.HeaderLemmas.{parts_of}
use Rattle.pure_graph.proofs.header.parts_within.Given as goal

abbrev pub invariant-loop-command : goal.invariant-loop-command
invariant-loop-command l = record {
  so_far : l.count ≡ sum_by parts_of (take l.command-index l.commands);
  within : l.count ≤ l.most;
}
