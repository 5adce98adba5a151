use Rattle.pure_core_runs.proofs.SeatLaws.{taker-one}
use Rattle.pure_core_runs.proofs.laws.taker_is_one.Goals as goal

pub returns : goal.returns
returns g c = taker-one (g.W.Work.forks c.args.work.now) (g.W.Work.closes c.args.work.now) (g.W.Work.may c.args.work.now) (g.W.Work.faults c.args.work.now)
