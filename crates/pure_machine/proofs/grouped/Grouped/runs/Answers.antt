use Rattle.std.proofs.Common.{ap}
use Rattle.pure_machine.proofs.PromiseLaws.{runs_same}
use Rattle.pure_machine.proofs.grouped.Grouped.runs.Goals as goal

pub returns : goal.returns
returns g c = runs_same c.runs.result c.args.self.now.list c.self.inside.promises (ap (λ h. h.list) c.self.view_is) c.runs.ensures
