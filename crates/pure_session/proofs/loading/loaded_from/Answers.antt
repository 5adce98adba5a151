use Rattle.std.proofs.Common.{arith, ◌^◌}
use Rattle.pure_graph.specs.Seen.{seen_files}
use Rattle.pure_session.proofs.LoadLemmas.{linked-ascend, linked-linked, judged-ascend, judged-few}
use Rattle.pure_session.proofs.loading.loaded_from.Goals as goal

pub judge-requires-clause-ascend : goal.judge-requires-clause-ascend
judge-requires-clause-ascend c = linked-ascend (seen_files c.args.files.items) (seen_files c.in_ok-linked.linked.items) c.in_ok-linked.ensures c.requires

pub judge-requires-clause-linked : goal.judge-requires-clause-linked
judge-requires-clause-linked c = linked-linked (seen_files c.args.files.items) (seen_files c.in_ok-linked.linked.items) c.in_ok-linked.ensures

pub load_order-requires-clause-ascend : goal.load_order-requires-clause-ascend
load_order-requires-clause-ascend c =
    judged-ascend (seen_files c.in_ok-linked.linked.items) (seen_files c.in_ok-judged.judged.items) c.in_ok-judged.ensures.judged
    (linked-ascend (seen_files c.args.files.items) (seen_files c.in_ok-linked.linked.items) c.in_ok-linked.ensures c.requires)

pub load_order-requires-clause-few : goal.load_order-requires-clause-few
load_order-requires-clause-few c =
    judged-few c.args.files.items c.in_ok-linked.linked.items c.in_ok-judged.judged.items c.in_ok-number.number (2 ^ 32) (rw c.as_slice.ensures.value at c.in_ok-number.ensures) (omega arith) c.in_ok-linked.ensures c.in_ok-judged.ensures.judged
