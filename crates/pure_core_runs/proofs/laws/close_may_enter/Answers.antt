use Rattle.pure_core_runs.proofs.SeatLaws.{enter-close}
use Rattle.pure_core_runs.proofs.laws.close_may_enter.Goals as goal

pub returns : goal.returns
returns g c = enter-close (g.W.Work.forks c.args.work.now) (g.W.Work.closes c.args.work.now) (g.W.Work.may c.args.work.now) (g.W.Work.faults c.args.work.now)
