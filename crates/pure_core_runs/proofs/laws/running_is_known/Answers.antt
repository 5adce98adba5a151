use Rattle.pure_core_runs.proofs.SeatLaws.{running-known}
use Rattle.pure_core_runs.proofs.laws.running_is_known.Goals as goal

pub returns : goal.returns
returns g c = running-known (g.W.Work.forks c.args.work.now) (g.W.Work.closes c.args.work.now) (g.W.Work.may c.args.work.now) (g.W.Work.faults c.args.work.now)
