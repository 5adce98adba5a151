use Rattle.pure_core_end.proofs.BeforeLaws.{goals-forked}
use Rattle.pure_core_end.proofs.laws.goals_are_forked.Goals as goal

pub returns : goal.returns
returns g c = goals-forked (g.W.Work.shape c.args.work.now) (g.W.Work.forks c.args.work.now) (g.W.Work.closes c.args.work.now) (g.W.Work.may c.args.work.now) (g.W.Work.faults c.args.work.now)
