use Rattle.pure_core.proofs.ReplyLaws.{delivers-step}
use Rattle.pure_core.proofs.laws.delivers_by_a_step.Goals as goal

pub returns : goal.returns
returns g c = delivers-step (g.W.Work.forks c.args.work.now) (g.W.Work.closes c.args.work.now) (g.W.Work.may c.args.work.now) (g.W.Work.faults c.args.work.now)
