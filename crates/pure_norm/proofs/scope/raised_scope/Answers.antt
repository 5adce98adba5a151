use Rattle.std.proofs.Common.{sym}
use Rattle.pure_norm.specs.Env.{meant}
use Rattle.pure_term_laws.proofs.BoundLaws.{lift-zero}
use Rattle.pure_norm.proofs.scope.raised_scope.Goals as goal

pub returns-then-by-eq0 : goal.returns-then-by-eq0
returns-then-by-eq0 c = λ t. rw (c.in_ok-same.ensures.cases, c.if-by-eq0.true) (sym (lift-zero 0 (meant c.args.scope.now.value t)))
