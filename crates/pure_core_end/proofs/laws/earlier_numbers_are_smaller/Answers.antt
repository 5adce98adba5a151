use Rattle.pure_core_end.proofs.BeforeLaws.{smaller-numbers}
use Rattle.pure_core_end.proofs.laws.earlier_numbers_are_smaller.Goals as goal

pub returns : goal.returns
returns g c = smaller-numbers (g.W.Work.shape c.args.work.now) (g.W.Work.forks c.args.work.now) (g.W.Work.closes c.args.work.now) (g.W.Work.may c.args.work.now) (g.W.Work.faults c.args.work.now)
