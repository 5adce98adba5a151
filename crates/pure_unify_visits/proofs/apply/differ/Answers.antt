use Rattle.pure_unify_visits.proofs.TurnLaws.{differ_on, differ_none, differ_fault}
use Rattle.pure_unify_visits.proofs.apply.differ.Goals as goal

pub returns-in-Ok-Some-clause-answer : goal.returns-in-Ok-Some-clause-answer
returns-in-Ok-Some-clause-answer c n h =
    differ_on c.args.order.now c.args.maxidx c.args.scan c.scan_of.result c.args.pair n c.args.typs.now.0 c.args.typs.now.1 c.in-Ok-Some.field-0 c.in-Ok-Some.node c.requires.ready h c.requires.treated c.in-Ok-Some.field-0-is
    (c.in-Ok-Some.ensures.answer n h) c.scan_of.ensures.node

pub returns-in-Ok-None-clause-answer : goal.returns-in-Ok-None-clause-answer
returns-in-Ok-None-clause-answer c n h =
    differ_none c.args.order.now c.args.maxidx c.args.scan c.args.pair n c.args.typs.now.0 c.args.typs.now.1 c.in-Ok-None.field-0 c.requires.ready h c.requires.treated c.in-Ok-None.field-0-is (c.in-Ok-None.ensures.answer n h)

pub returns-in-Err-clause-answer : goal.returns-in-Err-clause-answer
returns-in-Err-clause-answer c n h =
    differ_fault c.args.order.now c.args.maxidx c.args.scan c.args.pair n c.args.typs.now.0 c.args.typs.now.1 c.in-Err.fault c.requires.ready h c.requires.treated (c.in-Err.ensures.answer n h)
