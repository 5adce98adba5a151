use Rattle.pure_core_runs.proofs.SeatLaws.{taken-there}
use Rattle.pure_core_runs.proofs.laws.taken_is_there.Goals as goal

pub returns : goal.returns
returns g c = taken-there (g.W.Work.forks c.args.work.now) (g.W.Work.closes c.args.work.now) (g.W.Work.may c.args.work.now) (g.W.Work.faults c.args.work.now)
