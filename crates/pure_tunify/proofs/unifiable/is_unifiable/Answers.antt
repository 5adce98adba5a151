use Rattle.std.proofs.Common.{map, ap}
use Rattle.pure_tunify.specs.GraphCode.{part_of}
use Rattle.pure_tunify.proofs.GraphCheckLaws.{unifiable_answer}
use Rattle.pure_tunify.proofs.unifiable.is_unifiable.Goals as goal

pub returns : goal.returns
returns c =
    unifiable_answer c.args.order.now (map part_of c.empty_graph-graph.result.nodes.items) (map part_of c.add.new.graph.nodes.items) (map part_of c.add-2.new.graph.nodes.items) c.args.left.now c.args.right.now
    c.in_ok-first.first c.in_ok-second.second c.in_ok-can.can (ap (map part_of) c.empty_graph-graph.ensures) c.in_ok-first.ensures c.in_ok-second.ensures c.in_ok-can.ensures
