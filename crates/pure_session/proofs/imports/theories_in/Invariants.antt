use Rattle.std.proofs.Common.{◌≡◌, ◌++◌, drop}
use Rattle.pure_session.specs.ImportGraph.{theories}
use Rattle.pure_graph.specs.Seen.{seen_files}
use Rattle.pure_session.proofs.imports.theories_in.Given as goal

abbrev pub invariant-loop-file : goal.invariant-loop-file
invariant-loop-file l = l.names.items ++ theories (seen_files (drop l.file-index l.files)) ≡ theories (seen_files l.files)
