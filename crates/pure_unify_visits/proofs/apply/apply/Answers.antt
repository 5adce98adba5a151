use Rattle.pure_unify_visits.proofs.AlikeLaws.{put_typed}
use Rattle.pure_unify_visits.proofs.TurnLaws.{dropped_on, failed_there}
use Rattle.pure_unify_visits.proofs.apply.apply.Goals as goal

pub put-requires-clause-typed : goal.put-requires-clause-typed
put-requires-clause-typed c = put_typed c.args.pair.left c.args.pair.right c.in-Put.bind (rw c.in-Put.is at c.requires.treated)

pub returns-in-Leave-clause-answer : goal.returns-in-Leave-clause-answer
returns-in-Leave-clause-answer c n h = c.pass.ensures.answer c.args.order.now c.args.maxidx n h

pub returns-in-Split-clause-answer : goal.returns-in-Split-clause-answer
returns-in-Split-clause-answer c n h = c.split.ensures.answer c.args.order.now c.args.maxidx n h

pub returns-in-Dropped-clause-answer : goal.returns-in-Dropped-clause-answer
returns-in-Dropped-clause-answer c n h = dropped_on c.args.order.now c.args.maxidx c.args.scan c.args.pair n c.requires.ready h (rw c.in-Dropped.is at c.requires.treated)

pub returns-in-Fail-clause-answer : goal.returns-in-Fail-clause-answer
returns-in-Fail-clause-answer c n h = failed_there c.args.order.now c.args.maxidx c.args.scan c.args.pair n c.requires.ready h (rw c.in-Fail.is at c.requires.treated)

pub returns-in-Put-clause-answer : goal.returns-in-Put-clause-answer
returns-in-Put-clause-answer c n h = c.put.ensures.answer c.args.order.now c.args.maxidx c.args.pair n (rw c.in-Put.is at c.requires.treated) h
