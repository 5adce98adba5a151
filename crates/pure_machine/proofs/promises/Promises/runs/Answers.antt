use Rattle.std.proofs.Common.{◌∙◌}
use Rattle.pure_machine.proofs.PromiseLaws.{runs_same}
use Rattle.pure_machine.proofs.promises.Promises.runs.Goals as goal

pub returns : goal.returns
returns g c = runs_same c.some_taken.result c.args.self.now c.as_slice.result.now (c.as_slice.ensures.value ∙ c.self.view_is) c.some_taken.ensures
