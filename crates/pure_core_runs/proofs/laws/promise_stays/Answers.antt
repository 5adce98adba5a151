use Rattle.pure_core_runs.proofs.SeatLaws.{promise-keeps}
use Rattle.pure_core_runs.proofs.laws.promise_stays.Goals as goal

pub returns : goal.returns
returns g c = λ o acts more n p r at. (let new = promise-keeps (g.W.Work.forks c.args.work.now) (g.W.Work.closes c.args.work.now) (g.W.Work.may c.args.work.now) (g.W.Work.faults c.args.work.now) o acts more n p r at in (new.0, new.1, new.2.theory_is, new.2.command_is, new.2.goal_is, new.2.stays))
