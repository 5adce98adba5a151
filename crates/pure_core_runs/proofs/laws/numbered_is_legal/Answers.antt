use Rattle.pure_core_runs.proofs.SeatLaws.{run-legal, state-history, state-opening}
use Rattle.pure_core_runs.proofs.laws.numbered_is_legal.Goals as goal

pub returns : goal.returns
returns g c = λ o acts r. (run-legal (g.W.Work.forks c.args.work.now) (g.W.Work.closes c.args.work.now) (g.W.Work.may c.args.work.now) (g.W.Work.faults c.args.work.now) o acts r, state-history o acts, state-opening o acts)
