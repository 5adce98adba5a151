use Rattle.pure_core_runs.proofs.SeatLaws.{enter-deliver}
use Rattle.pure_core_runs.proofs.laws.deliver_may_enter.Goals as goal

pub returns : goal.returns
returns g c = enter-deliver (g.W.Work.forks c.args.work.now) (g.W.Work.closes c.args.work.now) (g.W.Work.may c.args.work.now) (g.W.Work.faults c.args.work.now)
