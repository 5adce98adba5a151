use Rattle.std.proofs.Common.{arith, ◌-◌, ◌<◌, length}
use Rattle.pure_theory_run.proofs.ItemLaws.{left-found}
use Rattle.pure_theory_run.proofs.parents.left_by.Goals as goal

pub returns : goal.returns
returns c =
    let within : c.args.index - 1 < length c.args.closed.now = omega (arith, c.requires.0, c.requires.1) in
    left-found c.args.closed.now c.args.index c.index-closed-index.result c.try_clone.result c.requires.0 within c.index-closed-index.is c.try_clone.ensures
