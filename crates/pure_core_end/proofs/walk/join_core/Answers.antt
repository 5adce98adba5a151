use Rattle.pure_core_end.proofs.JoinLaws.{core-joined}
use Rattle.pure_core_end.proofs.walk.join_core.Goals as goal

pub returns-clause-joined : goal.returns-clause-joined
returns-clause-joined g c = core-joined (g.W.Work.shape c.args.work.now) (g.W.Work.forks c.args.work.now) (g.W.Work.closes c.args.work.now) (g.W.Work.may c.args.work.now) (g.W.Work.faults c.args.work.now) c.args.core.now c.requires.legal c.requires.finished _ _ c.in_ok-values.ensures c.in_ok-promises.ensures
