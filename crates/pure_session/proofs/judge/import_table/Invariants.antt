use Rattle.std.proofs.Common.{List, ◌++◌, Bool, drop}
use Rattle.pure_text.specs.Lists.{EachTwo}
use Rattle.pure_session.specs.ImportGraph.{standing, IsImportRow}
use Rattle.pure_session.specs.Places.{cells}
use Rattle.pure_graph.specs.Seen.{seen_files}
use Rattle.pure_session.proofs.judge.import_table.Given as goal

abbrev pub invariant-loop-file : goal.invariant-loop-file
invariant-loop-file l = (more : List (List Bool)) → EachTwo (IsImportRow l.names) (standing (seen_files (drop l.file-index l.files))) more
    → EachTwo (IsImportRow l.names) (standing (seen_files l.files)) (cells l.rows.items ++ more)
