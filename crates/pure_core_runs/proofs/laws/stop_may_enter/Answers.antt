use Rattle.pure_core_runs.proofs.SeatLaws.{enter-stop}
use Rattle.pure_core_runs.proofs.laws.stop_may_enter.Goals as goal

pub returns : goal.returns
returns g c = enter-stop (g.W.Work.forks c.args.work.now) (g.W.Work.closes c.args.work.now) (g.W.Work.may c.args.work.now) (g.W.Work.faults c.args.work.now)
