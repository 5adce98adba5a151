use Rattle.std.proofs.Common.{arith}
use Rattle.pure_race.proofs.LaneLaws.{all-lose, least-some, least-none}
use Rattle.pure_race.proofs.races.settle.Goals as goal

pub returns-then-bound-count : goal.returns-then-bound-count
returns-then-bound-count g c =
    let held = c.loop-lane.invariant in
    least-some (g.A.Attempts.wins c.args.attempts.now) (g.A.Attempts.many c.args.attempts.now) c.loop-lane.bound (omega (arith, c.if-bound-count.true, c.count.ensures)) held.0
    (all-lose (g.A.Attempts.wins c.args.attempts.now) c.args.width c.loop-lane.bound c.requires.width.0 (λ lane less. held.1 lane (omega (arith, less, c.loop-lane-test.false, c.loop-lane.auto.lane-end, c.requires.width.1))))

pub returns-else-bound-count : goal.returns-else-bound-count
returns-else-bound-count g c =
    let held = c.loop-lane.invariant in
    least-none (g.A.Attempts.wins c.args.attempts.now) (g.A.Attempts.many c.args.attempts.now) c.loop-lane.bound (omega (arith, c.if-bound-count.false, c.count.ensures)) held.0
    (all-lose (g.A.Attempts.wins c.args.attempts.now) c.args.width c.loop-lane.bound c.requires.width.0 (λ lane less. held.1 lane (omega (arith, less, c.loop-lane-test.false, c.loop-lane.auto.lane-end, c.requires.width.1))))
