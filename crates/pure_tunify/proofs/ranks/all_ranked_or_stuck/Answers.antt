use Rattle.std.proofs.Common.{map}
use Rattle.pure_tunify.specs.GraphCode.{part_of, HasStuckKid}
use Rattle.pure_tunify.proofs.ReachLaws.{on_true}
use Rattle.pure_tunify.proofs.GraphCheckLaws.{stuck_turn, stuck_all}
use Rattle.pure_tunify.proofs.ranks.all_ranked_or_stuck.Goals as goal

pub loop-class-preserved : goal.loop-class-preserved
loop-class-preserved c =
    stuck_turn (HasStuckKid (map part_of c.args.nodes.now) c.args.roots.now c.args.shapes.now c.args.ranks.now) c.args.ranks.now c.loop-class.class c.loop-class.invariant
    (on_true _ c.is_ranked_or_stuck.result c.is_ranked_or_stuck.ensures c.if-not-is_ranked_or_stuck.false)

pub returns : goal.returns
returns c = stuck_all (HasStuckKid (map part_of c.args.nodes.now) c.args.roots.now c.args.shapes.now c.args.ranks.now) c.args.ranks.now c.loop-class.class c.loop-class-test.false c.loop-class.invariant
