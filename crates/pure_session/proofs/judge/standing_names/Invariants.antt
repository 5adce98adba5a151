use Rattle.std.proofs.Common.{◌≡◌, ◌++◌, drop}
use Rattle.pure_session.specs.ImportGraph.{theories, standing}
use Rattle.pure_graph.specs.Seen.{seen_files}
use Rattle.pure_session.proofs.judge.standing_names.Given as goal

abbrev pub invariant-loop-file : goal.invariant-loop-file
invariant-loop-file l = l.names.items ++ theories (standing (seen_files (drop l.file-index l.files))) ≡ theories (standing (seen_files l.files))
