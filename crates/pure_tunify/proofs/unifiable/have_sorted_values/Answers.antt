use Rattle.std.proofs.Common.{map, ap}
use Rattle.pure_tunify.specs.GraphCode.{part_of}
use Rattle.pure_tunify.proofs.GraphCheckLaws.{never_found}
use Rattle.pure_tunify.proofs.unifiable.have_sorted_values.Goals as goal

pub returns-in_default : goal.returns-in_default
returns-in_default c =
    never_found c.args.order.now (map part_of c.args.graph.now.nodes.items) (map part_of c.as_slice-nodes.result.now) c.args.roots.now c.args.shapes.now c.in_ok-found.found (ap (map part_of) c.as_slice-nodes.ensures.value) c.in_ok-found.ensures c.in_default.is
