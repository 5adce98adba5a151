use Rattle.pure_core_laws.proofs.StepLaws.{stops-step}
use Rattle.pure_core_laws.proofs.steps.stops_by_a_step.Goals as goal

pub returns : goal.returns
returns g c = stops-step (g.W.Work.forks c.args.work.now) (g.W.Work.closes c.args.work.now) (g.W.Work.may c.args.work.now) (g.W.Work.faults c.args.work.now)
