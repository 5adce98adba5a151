use Rattle.std.proofs.Common.{map}
use Rattle.pure_tunify.specs.GraphCode.{part_of, IsKnownAt}
use Rattle.pure_tunify.proofs.GraphCheckLaws.{known_one, nodes_all}
use Rattle.pure_tunify.proofs.unifiable.are_one.Goals as goal

pub returns : goal.returns
returns c =
    known_one c.args.graph.now.leaves (map part_of c.args.graph.now.nodes.items) c.args.roots.now
    (nodes_all (IsKnownAt c.args.graph.now.leaves c.args.roots.now) c.args.graph.now.nodes.items c.loop-at.at (rw c.as_slice-nodes.ensures.value at c.loop-at-test.false) c.loop-at.invariant)
