use Rattle.std.proofs.Common.{map}
use Rattle.pure_tunify.specs.GraphCode.{part_of}
use Rattle.pure_tunify.proofs.GraphBuildLaws.{made_put}
use Rattle.pure_tunify.proofs.graph.add_made.Goals as goal

pub returns : goal.returns
returns c = made_put (map part_of c.args.graph.now.nodes.items) (map part_of c.put.new.graph.nodes.items) c.args.name c.args.kids.items c.in_ok-at.at c.in_ok-at.ensures
