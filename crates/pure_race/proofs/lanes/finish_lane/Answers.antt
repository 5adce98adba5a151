use Rattle.pure_race.proofs.LaneLaws.{next-in_lane, next-loses, won-loses}
use Rattle.pure_race.proofs.lanes.finish_lane.Goals as goal

pub loop-number-preserved : goal.loop-number-preserved
loop-number-preserved g c =
    let held = c.loop-number.invariant in
    let loses = won-loses (g.A.Attempts.wins c.args.attempts.now c.loop-number.number) c.in_ok-whole_attempt.field-0 c.in_ok-whole_attempt.ensures c.if-branch.false in
    (next-in_lane c.args.width c.args.lane c.loop-number.number held.0, next-loses (g.A.Attempts.wins c.args.attempts.now) c.args.width c.args.lane c.loop-number.number c.requires.width held.0 loses held.1)
