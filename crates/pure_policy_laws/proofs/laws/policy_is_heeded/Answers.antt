use Rattle.pure_policy_laws.proofs.HeedLaws.{heeded}
use Rattle.pure_policy_laws.proofs.laws.policy_is_heeded.Goals as goal

pub returns : goal.returns
returns g c = λ o acts ordered shaped run orderly finished order. heeded (g.W.Work.forks c.args.work.now) (g.W.Work.closes c.args.work.now) (g.W.Work.may c.args.work.now) (g.W.Work.faults c.args.work.now) o acts shaped run orderly ordered finished order
