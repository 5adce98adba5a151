use Rattle.pure_machine.proofs.FinishLaws.{all_closed}
use Rattle.pure_machine.proofs.theories.some_runs_or_all_closed.Goals as goal

pub returns : goal.returns
returns g c none = all_closed c.args.shape.now c.args.theories.now c.requires.formed c.requires.same none c.if-some_runs.ensures
