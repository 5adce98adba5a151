use Rattle.std.proofs.Common.{get_or}
use Rattle.pure_tunify.proofs.GraphClassLaws.{coupled_turn, number_read, same_counts}
use Rattle.pure_tunify.proofs.classes.couple_each.Goals as goal

pub loop-i-preserved : goal.loop-i-preserved
loop-i-preserved c = λ v each same.
    coupled_turn v c.args.lefts.now c.args.rights.now c.loop-i.i (get_or c.args.lefts.now c.loop-i.i 0) (get_or c.args.rights.now c.loop-i.i 0) c.loop-i.work.items c.push.new.self.items c.loop-i-test.true
    (number_read c.args.lefts.now c.loop-i.i c.loop-i-test.true) (number_read c.args.rights.now c.loop-i.i (same_counts c.args.lefts.now c.args.rights.now c.loop-i.i c.requires c.loop-i-test.true)) c.in_ok-push.ensures.items same
    (c.loop-i.invariant v each same)
