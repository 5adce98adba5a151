use Rattle.pure_race.proofs.LaneLaws.{least-once}
use Rattle.pure_race.proofs.laws.least_win_once.Goals as goal

pub returns : goal.returns
returns g c = least-once (g.A.Attempts.wins c.args._attempts.now)
