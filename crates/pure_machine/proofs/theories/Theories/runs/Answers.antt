use Rattle.pure_machine.proofs.RunsLaws.{runs-shown}
use Rattle.pure_machine.proofs.theories.Theories.runs.Goals as goal

pub returns : goal.returns
returns g c = runs-shown c.some_runs_or_all_closed.result c.args.self.now c.self.inside.shape.items c.as_slice.result.now c.self.inside.list.items c.as_slice-2.result.now c.as_slice.ensures.value c.as_slice-2.ensures.value c.self.view_is c.some_runs_or_all_closed.ensures
