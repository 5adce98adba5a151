use Rattle.std.proofs.Common.{take}
use Rattle.pure_graph.specs.Graph.{other_than_pure}
use Rattle.pure_session.specs.ImportGraph.{MarksPlaces}
use Rattle.pure_session.proofs.judge.import_row.Given as goal

abbrev pub invariant-loop-import : goal.invariant-loop-import
invariant-loop-import l = MarksPlaces l.names (other_than_pure (take l.import-index l.imports)) l.row.items
