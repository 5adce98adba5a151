use Rattle.std.proofs.Common.{sym}
use Rattle.pure_norm.proofs.MeantLemmas.{meant-abs}
use Rattle.pure_norm.proofs.walk.lambda.Goals as goal

pub returns-clause-found : goal.returns-clause-found
returns-clause-found c = rw c.in_ok-scope.ensures.cases (sym (meant-abs 0 c.args.scope.now.value c.args.typ.now c.args.body.now.term.now))
