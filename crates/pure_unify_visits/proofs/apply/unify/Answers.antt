use Rattle.std.proofs.Common.{◌≡◌, ◌+◌, length, reverse, arith}
use Rattle.pure_unify_visits.proofs.AlikeLaws.{unify_there}
use Rattle.pure_unify_visits.proofs.TurnLaws.{unify_on, unify_none, unify_fault}
use Rattle.pure_unify_visits.proofs.apply.unify.Goals as goal

pub split_at-requires-clause-many : goal.split_at-requires-clause-many
split_at-requires-clause-many c =
    let many : length c.args.scan.passed.items ≡ c.len-count.result = omega (arith, c.len-count.ensures, c.args.scan.passed.ok.0) in
    unify_there c.args.order.now (c.args.maxidx + 65) c.args.scan.path.fresh c.args.typs.now.0 c.args.typs.now.1 c.args.scan.passed.items c.args.pair (reverse c.args.scan.rest.items) c.in-Ok-Some.field-0 c.in-Ok-Some.node c.len-count.result
    c.in-Ok-Some.field-0-is c.requires.long c.requires.treated c.in-Ok-Some.ensures.put c.in-Ok-Some.ensures.long many

pub returns-in_ok-split_at-in-Ok-Some-clause-answer : goal.returns-in_ok-split_at-in-Ok-Some-clause-answer
returns-in_ok-split_at-in-Ok-Some-clause-answer c n h =
    let many : length c.args.scan.passed.items ≡ c.len-count.result = omega (arith, c.len-count.ensures, c.args.scan.passed.ok.0) in
    unify_on c.args.order.now c.args.maxidx c.args.scan c.in_ok-split_at-in-Ok-Some.field-0 c.args.pair n c.args.typs.now.0 c.args.typs.now.1 c.in-Ok-Some.field-0 c.in-Ok-Some.node c.len-count.result c.requires.ready h c.requires.treated c.in-Ok-Some.field-0-is
    (c.in-Ok-Some.ensures.answer n h) many c.in_ok-split_at-in-Ok-Some.ensures.node

pub returns-in-Ok-None-clause-answer : goal.returns-in-Ok-None-clause-answer
returns-in-Ok-None-clause-answer c n h =
    unify_none c.args.order.now c.args.maxidx c.args.scan c.args.pair n c.args.typs.now.0 c.args.typs.now.1 c.in-Ok-None.field-0 c.requires.ready h c.requires.treated c.in-Ok-None.field-0-is (c.in-Ok-None.ensures.answer n h)

pub returns-in-Err-clause-answer : goal.returns-in-Err-clause-answer
returns-in-Err-clause-answer c n h =
    unify_fault c.args.order.now c.args.maxidx c.args.scan c.args.pair n c.args.typs.now.0 c.args.typs.now.1 c.in-Err.fault c.requires.ready h c.requires.treated (c.in-Err.ensures.answer n h)
