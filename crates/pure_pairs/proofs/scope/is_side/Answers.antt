use Rattle.pure_term.specs.Scope.{scope_typs}
use Rattle.pure_pairs.proofs.ScopeLaws.{side_is, no_side}
use Rattle.pure_pairs.proofs.scope.is_side.Goals as goal

pub returns-in-Some : goal.returns-in-Some
returns-in-Some c = side_is (scope_typs c.args.scope.now) c.args.side.now c.in-Some.inside.now c.args.part.now c.eq.result c.in-Some.ensures c.eq.ensures

pub returns-in-None : goal.returns-in-None
returns-in-None c = no_side (scope_typs c.args.scope.now) c.args.side.now c.args.part.now c.in-None.ensures
