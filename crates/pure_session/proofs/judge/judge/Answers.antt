use Rattle.pure_graph.specs.Seen.{seen_files}
use Rattle.pure_session.specs.Places.{cells}
use Rattle.pure_session.proofs.JudgeLemmas.{judged-made, grounded-made}
use Rattle.pure_session.proofs.judge.judge.Goals as goal

pub returns-clause-judged : goal.returns-clause-judged
returns-clause-judged c =
    judged-made (seen_files c.args.files.items) (seen_files c.in_ok-done.done.items) c.in_ok-graph.graph.names.items (cells c.in_ok-graph.graph.rows.items) c.in_ok-graph.graph.lost.items c.in_ok-done.ensures
    (rw c.as_slice.ensures.value at c.in_ok-graph.ensures) c.requires.linked

pub returns-clause-grounded : goal.returns-clause-grounded
returns-clause-grounded c =
    grounded-made (seen_files c.args.files.items) (seen_files c.in_ok-done.done.items) c.in_ok-graph.graph.names.items (cells c.in_ok-graph.graph.rows.items) c.in_ok-graph.graph.lost.items c.in_ok-done.ensures c.requires.ascend
    (rw c.as_slice.ensures.value at c.in_ok-graph.ensures) c.requires.linked
