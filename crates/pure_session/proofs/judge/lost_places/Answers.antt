use Rattle.std.proofs.Common.{arith}
use Rattle.pure_session.specs.Places.{cells, is_marked}
use Rattle.pure_session.proofs.JudgeLemmas.{AreLostBelow-more, AreLostBelow-all}
use Rattle.pure_session.proofs.judge.lost_places.Goals as goal

pub loop-place-preserved : goal.loop-place-preserved
loop-place-preserved c =
    AreLostBelow-more (is_marked (cells c.args.rows.now)) c.args.count c.loop-place.place c.loop-place.lost.items c.push.new.self.items c.is_lost.result c.loop-place.invariant c.in_ok-push.ensures.items c.is_lost.ensures

pub returns : goal.returns
returns c = AreLostBelow-all (is_marked (cells c.args.rows.now)) c.args.count c.loop-place.place c.loop-place.lost.items (omega arith) c.loop-place.invariant
