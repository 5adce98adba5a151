use Rattle.pure_core_end.proofs.WholeLaws.{nothing-cancelled}
use Rattle.pure_core_end.proofs.laws.nothing_is_cancelled.Goals as goal

pub returns : goal.returns
returns g c = nothing-cancelled (g.W.Work.shape c.args.work.now) (g.W.Work.forks c.args.work.now) (g.W.Work.closes c.args.work.now) (g.W.Work.may c.args.work.now) (g.W.Work.faults c.args.work.now)
