use Rattle.std.proofs.Common.{sym, subst}
use Rattle.pure_logic.specs.Derivable.{Pair}
use Rattle.pure_unify_nodes.specs.Long.{IsLongPair}
use Rattle.pure_unify_visits.specs.Scanned.{IsAt}
use Rattle.pure_unify_visits.proofs.AlikeLaws.{put_typed}
use Rattle.pure_unify_visits.proofs.apply.treat.Goals as goal

pub put-requires-clause-typed : goal.put-requires-clause-typed
put-requires-clause-typed c = put_typed c.args.pair.left c.args.pair.right c.in-Ok.bind c.in-Ok.ensures

pub returns-in-Ok-clause-answer : goal.returns-in-Ok-clause-answer
returns-in-Ok-clause-answer c n h = c.put.ensures.answer c.args.order.now c.args.maxidx c.args.pair n c.in-Ok.ensures h

pub treat_otherwise-requires-clause-long : goal.treat_otherwise-requires-clause-long
treat_otherwise-requires-clause-long c = subst (λ (p : Pair). IsLongPair p) (sym c.in-Err.ensures) c.requires.long

pub returns-in-Err-clause-answer : goal.returns-in-Err-clause-answer
returns-in-Err-clause-answer c n h = c.treat_otherwise.ensures.answer n (subst (λ (p : Pair). IsAt c.args.scan p n) (sym c.in-Err.ensures) h)
