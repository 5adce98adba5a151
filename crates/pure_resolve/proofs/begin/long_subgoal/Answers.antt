use Rattle.std.proofs.Common.{sym, subst}
use Rattle.pure_definitions.specs.Terms.Term.{Term}
use Rattle.pure_unify_definitions.specs.LongSides.{Long, ComesTo}
use Rattle.pure_resolve.proofs.begin.long_subgoal.Goals as goal

pub returns : goal.returns
returns c = subst (λ (u : Term). ComesTo c.args.t.now (Long u)) (sym c.in_ok-copy.ensures) (c.is_long.ensures c.if-not-is_long.false)
