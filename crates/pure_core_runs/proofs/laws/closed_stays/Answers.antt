use Rattle.pure_core_runs.proofs.SeatLaws.{closed-keeps}
use Rattle.pure_core_runs.proofs.laws.closed_stays.Goals as goal

pub returns : goal.returns
returns g c = closed-keeps (g.W.Work.forks c.args.work.now) (g.W.Work.closes c.args.work.now) (g.W.Work.may c.args.work.now) (g.W.Work.faults c.args.work.now)
