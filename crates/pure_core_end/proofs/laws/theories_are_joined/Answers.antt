use Rattle.pure_core_end.proofs.JoinLaws.{theory-joined}
use Rattle.pure_core_end.proofs.laws.theories_are_joined.Goals as goal

pub returns : goal.returns
returns g c = theory-joined (g.W.Work.shape c.args.work.now) (g.W.Work.forks c.args.work.now) (g.W.Work.closes c.args.work.now) (g.W.Work.may c.args.work.now) (g.W.Work.faults c.args.work.now)
