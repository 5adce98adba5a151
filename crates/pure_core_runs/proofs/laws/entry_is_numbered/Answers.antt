use Rattle.pure_core_runs.proofs.SeatLaws.{run-grows}
use Rattle.pure_core_runs.proofs.laws.entry_is_numbered.Goals as goal

pub returns : goal.returns
returns g c = run-grows (g.W.Work.forks c.args.work.now) (g.W.Work.closes c.args.work.now) (g.W.Work.may c.args.work.now) (g.W.Work.faults c.args.work.now)
