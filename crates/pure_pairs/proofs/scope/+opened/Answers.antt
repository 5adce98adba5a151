use Rattle.pure_term.specs.Scope.{scope_typs}
use Rattle.pure_pairs.proofs.ScopeLaws.{opened_on}
use Rattle.pure_pairs.proofs.scope.+opened.Goals as goal

pub returns-in-Some : goal.returns-in-Some
returns-in-Some t c = rw c.in-Under.is (opened_on (λ b. b.now) c.body_of.result c.in-Under.typ.now (scope_typs c.in-Under.outer.now) c.args.t.now c.in-Some.inside.now c.in-Some.ensures c.body_of.ensures)
