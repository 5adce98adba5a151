use Rattle.std.proofs.Common.{map}
use Rattle.pure_tunify.specs.GraphCode.{part_of}
use Rattle.pure_tunify.proofs.GraphClassLaws.{asking, node_at}
use Rattle.pure_tunify.proofs.demands.ask.Goals as goal

pub returns : goal.returns
returns c =
    asking c.args.order.now (map part_of c.args.nodes.now) c.args.roots.now c.args.shapes.now c.args.wanted.node c.args.wanted.class c.number_at-root.result c.number_at-shape.result (part_of c.in-Some.node.now) c.args.work.now.items c.demand_of.new.work.items
    c.in_ok-can.can c.number_at-root.ensures c.number_at-shape.ensures (node_at c.args.nodes.now c.number_at-shape.result c.in-Some.node.now c.in-Some.ensures.lookup.3.0 c.in-Some.ensures.lookup.1) c.in_ok-can.ensures
