use Rattle.pure_core.proofs.ReplyLaws.{forks-step}
use Rattle.pure_core.proofs.laws.forks_by_a_step.Goals as goal

pub returns : goal.returns
returns g c = forks-step (g.W.Work.forks c.args.work.now) (g.W.Work.closes c.args.work.now) (g.W.Work.may c.args.work.now) (g.W.Work.faults c.args.work.now)
