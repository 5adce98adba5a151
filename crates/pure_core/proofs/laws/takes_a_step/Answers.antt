use Rattle.pure_core.proofs.ReplyLaws.{takes-step}
use Rattle.pure_core.proofs.laws.takes_a_step.Goals as goal

pub returns : goal.returns
returns g c = takes-step (g.W.Work.forks c.args.work.now) (g.W.Work.closes c.args.work.now) (g.W.Work.may c.args.work.now) (g.W.Work.faults c.args.work.now)
