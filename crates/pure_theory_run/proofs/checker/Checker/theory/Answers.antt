use Rattle.pure_theory_run.proofs.PlaceLaws.{loaded-here}
use Rattle.pure_theory_run.proofs.checker.Checker.theory.Goals as goal

pub returns : goal.returns
returns c = loaded-here c.theories-theories.result.now c.args.self.now.theories c.args.index c.index-theories-index.result c.requires c.theories-theories.ensures c.index-theories-index.is
