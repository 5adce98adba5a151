use Rattle.std.proofs.Common.{◌≡◌, ◌++◌, map}
use Rattle.std.specs.Vec.Iter.{into_iter_items}
use Rattle.pure_session.specs.Judging.{judged_file}
use Rattle.pure_session.specs.Places.{cells}
use Rattle.pure_graph.specs.Seen.{seen_files}
use Rattle.pure_session.proofs.judge.judge_all.Given as goal

abbrev pub invariant-loop-file : goal.invariant-loop-file
invariant-loop-file l =
    seen_files l.done.items ++ map (judged_file l.graph.names.items (cells l.graph.rows.items) l.graph.lost.items) (seen_files (into_iter_items l.file-iterator))
    ≡ map (judged_file l.graph.names.items (cells l.graph.rows.items) l.graph.lost.items) (seen_files (into_iter_items l.initial.file-iterator))
