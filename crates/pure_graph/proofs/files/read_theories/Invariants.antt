use Rattle.std.proofs.Common.{◌≡◌, ◌≤◌, ◌-◌, take, length}
use Rattle.pure_graph.specs.Limits.{session_parts_bound}
use Rattle.pure_graph.specs.Drafts.{IsReadTo}
use Rattle.pure_graph.proofs.files.read_theories.Given as goal

abbrev pub invariant-loop-place : goal.invariant-loop-place
invariant-loop-place g l = record {
  so_far : IsReadTo (g.L.Library.files l.initial.library) (take l.place l.theories) l.read;
  few : l.read.parts ≤ session_parts_bound;
  within : l.place ≤ length l.theories;
  same : g.L.Library.files l.library ≡ g.L.Library.files l.initial.library;
  later : g.L.Library.faults l.initial.library ≤ g.L.Library.faults l.library;
}

abbrev pub decreases-loop-place : goal.decreases-loop-place
decreases-loop-place g l = length l.theories - l.place
