use Rattle.pure_session.proofs.TableLemmas.{HasMarksOf-turn}
use Rattle.pure_session.proofs.table.mark_all.Goals as goal

pub loop-place-preserved : goal.loop-place-preserved
loop-place-preserved c =
    HasMarksOf-turn c.args.row.now.items c.args.other.now c.loop-place.row.items c.mark_if.new.row.items c.loop-place.place c.has.result c.loop-place-test.true c.has.ensures c.in_ok-mark_if.ensures c.loop-place.invariant
