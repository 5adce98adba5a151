use Rattle.pure_race.proofs.LaneLaws.{all-ended}
use Rattle.pure_race.proofs.races.run_all.Goals as goal

pub returns : goal.returns
returns g c =
    all-ended (g.A.Attempts.wins c.args.attempts.now) (g.A.Attempts.many c.args.attempts.now) c.args.width c.in_ok-lanes.lanes.items c.in_ok-ended.ended.items c.in_ok-ends.ends.items
    c.in_ok-lanes.ensures c.in_ok-ended.ensures (rw c.as_slice.ensures.value at c.in_ok-ends.ensures)
