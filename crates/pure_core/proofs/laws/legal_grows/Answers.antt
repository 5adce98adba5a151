use Rattle.pure_core.proofs.RunLaws.{legal-grows}
use Rattle.pure_core.proofs.laws.legal_grows.Goals as goal

pub returns : goal.returns
returns g c = legal-grows (g.W.Work.shape c.args.work.now) (g.W.Work.forks c.args.work.now) (g.W.Work.closes c.args.work.now) (g.W.Work.may c.args.work.now) (g.W.Work.faults c.args.work.now)
