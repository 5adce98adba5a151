use Rattle.std.proofs.Common.{◌≡◌, ◌++◌, map}
use Rattle.std.specs.Vec.Iter.{into_iter_items}
use Rattle.pure_graph.specs.Graph.{linked}
use Rattle.pure_graph.specs.Seen.{seen_files}
use Rattle.pure_session.proofs.imports.link.Given as goal

abbrev pub invariant-loop-file : goal.invariant-loop-file
invariant-loop-file l =
    seen_files l.done.items ++ map (linked l.listed.items) (seen_files (into_iter_items l.file-iterator)) ≡ map (linked l.listed.items) (seen_files (into_iter_items l.initial.file-iterator))
