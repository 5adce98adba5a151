use Rattle.std.proofs.Common.{map, arith}
use Rattle.std.proofs.lemmas.List.{length-map}
use Rattle.pure_tunify.specs.GraphCode.{part_of}
use Rattle.pure_tunify.proofs.GraphCheckLaws.{all_ranked}
use Rattle.pure_tunify.proofs.ranks.are_ranked.Goals as goal

pub returns : goal.returns
returns c =
    let long = length-map c.args.nodes.now part_of in
    all_ranked (map part_of c.args.nodes.now) c.args.roots.now c.args.shapes.now c.args.ranks.now c.loop-class.class (omega (arith, long, c.if-shapes-nodes.false)) c.loop-class-test.false c.loop-class.invariant
