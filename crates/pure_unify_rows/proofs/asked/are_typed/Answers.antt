use Rattle.pure_unify_nodes.specs.SideAnswer.{AreSidesTyped}
use Rattle.pure_unify_rows.proofs.ListLemmas.{each_more, each_all}
use Rattle.pure_unify_rows.proofs.asked.are_typed.Goals as goal

pub loop-pair-preserved : goal.loop-pair-preserved
loop-pair-preserved c =
    each_more AreSidesTyped c.args.pairs.now c.loop-pair.pair-index c.pair-item.result c.loop-pair-test.true c.pair-item.is c.loop-pair.invariant (rw c.if-not-are_sides_typed.false at c.are_sides_typed.ensures)

pub returns : goal.returns
returns c = each_all AreSidesTyped c.args.pairs.now c.loop-pair.pair-index c.loop-pair-test.false c.loop-pair.invariant
