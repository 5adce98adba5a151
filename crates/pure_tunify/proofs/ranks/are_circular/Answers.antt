use Rattle.std.proofs.Common.{map}
use Rattle.pure_tunify.specs.GraphCode.{part_of}
use Rattle.pure_tunify.proofs.ReachLaws.{on_true}
use Rattle.pure_tunify.proofs.GraphCheckLaws.{circular}
use Rattle.pure_tunify.proofs.ranks.are_circular.Goals as goal

pub returns : goal.returns
returns c = λ A.
    let some = on_true _ c.some_unranked.result c.some_unranked.ensures c.if-not-some_unranked.false in
    circular A (map part_of c.args.nodes.now) c.args.roots.now c.args.shapes.now c.args.ranks.now
    (on_true _ c.all_ranked_or_stuck.result c.all_ranked_or_stuck.ensures c.if-not-all_ranked_or_stuck.false) some.0 some.1
