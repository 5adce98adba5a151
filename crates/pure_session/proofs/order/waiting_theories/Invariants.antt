use Rattle.std.proofs.Common.{◌≡◌, ◌++◌}
use Rattle.std.specs.Vec.Iter.{into_iter_items}
use Rattle.pure_text.specs.Lists.{Each}
use Rattle.pure_session.specs.ImportGraph.{standing}
use Rattle.pure_graph.specs.Seen.{seen_files}
use Rattle.pure_session.specs.Waiting.{waiting_files, HasPlaces}
use Rattle.pure_session.proofs.order.waiting_theories.Given as goal

abbrev pub invariant-loop-file : goal.invariant-loop-file
invariant-loop-file l = record {
  files : waiting_files l.rest.items ++ standing (seen_files (into_iter_items l.file-iterator)) ≡ standing (seen_files (into_iter_items l.initial.file-iterator));
  places : Each (HasPlaces l.names) l.rest.items;
}
