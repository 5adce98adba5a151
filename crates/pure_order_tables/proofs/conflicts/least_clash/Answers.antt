use Rattle.std.proofs.Common.{◌+◌, take_all}
use Rattle.pure_text.proofs.AnswerLaws.{test_fails}
use Rattle.pure_order_tables.proofs.ConflictLaws.{AreSeen, clash_kept, clash_put, seen_all, seen_here, seen_more, seen_split, seen_start}
use Rattle.pure_order_tables.proofs.conflicts.least_clash.Goals as goal
use Rattle.pure_order_tables.proofs.conflicts.least_clash.Goals.{then-clash, else-clash}

pub loop-second-init : goal.loop-second-init
loop-second-init c = seen_start c.args.firsts.now c.loop-first.first-index c.first-item.result c.args.seconds.now c.loop-first.least c.loop-first.invariant

pub loop-second-preserved : goal.loop-second-preserved
loop-second-preserved c = elim c.if-clash.branch [
  | then-clash w ↦ rw w.least-is (clash_put (AreSeen c.args.firsts.now c.loop-first.first-index c.first-item.result c.args.seconds.now c.loop-second.second-index) (AreSeen c.args.firsts.now c.loop-first.first-index c.first-item.result c.args.seconds.now (c.loop-second.second-index + 1)) c.first-item.result c.second-item.result c.loop-second.least w.lesser_names.result
      (λ e f m. seen_more c.args.firsts.now c.loop-first.first-index c.first-item.result c.args.seconds.now c.loop-second.second-index c.second-item.result e f c.loop-second-test.true c.second-item.is m)
      (λ e f m. seen_split c.args.firsts.now c.loop-first.first-index c.first-item.result c.args.seconds.now c.loop-second.second-index c.second-item.result e f c.loop-second-test.true c.second-item.is m)
      (seen_here c.args.firsts.now c.loop-first.first-index c.first-item.result c.args.seconds.now c.loop-second.second-index c.second-item.result c.loop-second-test.true c.second-item.is)
      (c.clash.ensures.0 w.if-clash.true) (rw w.names.ensures at w.lesser_names.ensures.within) (rw w.names.ensures at w.lesser_names.ensures.one) c.loop-second.invariant)
  | else-clash w ↦ rw w.least-is (clash_kept (AreSeen c.args.firsts.now c.loop-first.first-index c.first-item.result c.args.seconds.now c.loop-second.second-index) (AreSeen c.args.firsts.now c.loop-first.first-index c.first-item.result c.args.seconds.now (c.loop-second.second-index + 1)) c.first-item.result c.second-item.result c.loop-second.least
      (λ e f m. seen_more c.args.firsts.now c.loop-first.first-index c.first-item.result c.args.seconds.now c.loop-second.second-index c.second-item.result e f c.loop-second-test.true c.second-item.is m)
      (λ e f m. seen_split c.args.firsts.now c.loop-first.first-index c.first-item.result c.args.seconds.now c.loop-second.second-index c.second-item.result e f c.loop-second-test.true c.second-item.is m)
      (test_fails _ c.clash.result c.clash.ensures w.if-clash.false) c.loop-second.invariant)
]

pub loop-first-preserved : goal.loop-first-preserved
loop-first-preserved c = seen_all c.args.firsts.now c.loop-first.first-index c.first-item.result c.args.seconds.now c.loop-second.second-index c.loop-second.least c.loop-first-test.true c.first-item.is (take_all c.loop-second.second-index c.args.seconds.now c.loop-second-test.false) c.loop-second.invariant

pub returns : goal.returns
returns c = rw (take_all c.loop-first.first-index c.args.firsts.now c.loop-first-test.false) at c.loop-first.invariant
