use Rattle.std.proofs.Common.{arith}
use Rattle.pure_graph.specs.Seen.{seen_files}
use Rattle.pure_session.proofs.GraphLemmas.{sorted_standing, graph-made}
use Rattle.pure_session.proofs.judge.graph_of.Goals as goal

pub import_table-requires : goal.import_table-requires
import_table-requires c = rw (c.as_slice.ensures.value, c.in_ok-names.ensures) (sorted_standing (seen_files c.args.files.now) c.requires.ascend)

pub returns : goal.returns
returns c =
    graph-made (seen_files c.args.files.now) c.in_ok-names.names.items c.in_ok-table.table.items c.in_ok-rows.rows.items c.in_ok-lost.lost.items c.len.result c.requires.ascend c.requires.linked c.in_ok-names.ensures
    (rw c.as_slice.ensures.value at c.in_ok-table.ensures) c.in_ok-rows.ensures (omega (arith, c.len.ensures, c.in_ok-names.names.ok)) (rw c.as_slice-2.ensures.value at c.in_ok-lost.ensures)
