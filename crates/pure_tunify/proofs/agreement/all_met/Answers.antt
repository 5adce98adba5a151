use Rattle.std.proofs.Common.{map}
use Rattle.pure_tunify.specs.Graphs.{IsMet}
use Rattle.pure_tunify.specs.GraphCode.{part_of, asked_at, root_at, shape_at}
use Rattle.pure_tunify.proofs.ReachLaws.{on_true}
use Rattle.pure_tunify.proofs.GraphCheckLaws.{met_turn, met_all}
use Rattle.pure_tunify.proofs.agreement.all_met.Goals as goal

pub loop-root-preserved : goal.loop-root-preserved
loop-root-preserved c =
    met_turn (λ d r. IsMet c.args.order.now (root_at c.args.roots.now) (asked_at c.args.asked.now) d (shape_at (map part_of c.args.nodes.now) c.args.shapes.now r)) c.args.asked.now c.loop-root.root c.index-asked-root.result c.loop-root-test.true c.index-asked-root.is
    c.loop-root.invariant (rw c.as_slice-classes.ensures.value at (on_true _ c.are_met.result c.are_met.ensures c.if-not-are_met.false))

pub returns : goal.returns
returns c =
    met_all (λ d r. IsMet c.args.order.now (root_at c.args.roots.now) (asked_at c.args.asked.now) d (shape_at (map part_of c.args.nodes.now) c.args.shapes.now r)) c.args.asked.now c.loop-root.root c.loop-root-test.false c.loop-root.invariant
