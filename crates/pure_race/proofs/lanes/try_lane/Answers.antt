use Rattle.pure_race.proofs.LaneLaws.{next-in_lane, next-loses, told-loses}
use Rattle.pure_race.proofs.lanes.try_lane.Goals as goal

pub loop-number-preserved : goal.loop-number-preserved
loop-number-preserved g c =
    let held = c.loop-number.invariant in
    let loses = told-loses (g.A.Attempts.wins c.args.attempts.now c.loop-number.number) c.in_ok-attempt.field-0 c.in-Some-false.field-0 c.in-Some-false.is c.in-Some-false.field-0-test c.in_ok-attempt.ensures in
    (next-in_lane c.args.width c.args.lane c.loop-number.number held.0, next-loses (g.A.Attempts.wins c.args.attempts.now) c.args.width c.args.lane c.loop-number.number c.requires held.0 loses held.1)
