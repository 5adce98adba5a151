use Rattle.std.proofs.Common.{◌≤◌}
use Rattle.std.specs.Vec.Iter.{into_iter_items}
use Rattle.pure_graph.specs.Limits.{session_parts_bound}
use Rattle.pure_graph.proofs.DraftLemmas.{AreCounted}
use Rattle.pure_graph.proofs.files.counted_files.Given as goal

abbrev pub invariant-loop-draft : goal.invariant-loop-draft
invariant-loop-draft l = record {
  so_far : AreCounted l.fn.before l.fn.drafts.items (into_iter_items l.draft-iterator) l.files.items l.parts;
  few : l.parts ≤ session_parts_bound;
}
