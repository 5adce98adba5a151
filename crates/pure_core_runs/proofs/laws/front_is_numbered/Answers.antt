use Rattle.pure_core_runs.proofs.SeatLaws.{run-begins}
use Rattle.pure_core_runs.proofs.laws.front_is_numbered.Goals as goal

pub returns : goal.returns
returns g c = run-begins (g.W.Work.forks c.args.work.now) (g.W.Work.closes c.args.work.now) (g.W.Work.may c.args.work.now) (g.W.Work.faults c.args.work.now)
