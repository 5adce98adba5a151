use Rattle.pure_core_runs.proofs.SeatLaws.{finished-closed}
use Rattle.pure_core_runs.proofs.laws.finished_is_closed.Goals as goal

pub returns : goal.returns
returns g c = finished-closed (g.W.Work.forks c.args.work.now) (g.W.Work.closes c.args.work.now) (g.W.Work.may c.args.work.now) (g.W.Work.faults c.args.work.now)
