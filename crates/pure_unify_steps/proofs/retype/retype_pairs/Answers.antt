use Rattle.std.proofs.Common.{◌+◌}
use Rattle.pure_unify_steps.proofs.RetypeLaws.{retyping, retyping_put, retyping_none, retyping_fault}
use Rattle.pure_unify_steps.proofs.retype.retype_pairs.Goals as goal

pub returns-in-Ok-Some-clause-answer : goal.returns-in-Ok-Some-clause-answer
returns-in-Ok-Some-clause-answer c n e h =
    let found = rw c.in-Ok-Some.field-0-is at c.in-Ok-Some.ensures in
    retyping c.args.order.now c.args.maxidx c.args.path.now.fresh n c.args.typs.now.0 c.args.typs.now.1 c.in-Ok-Some.map c.in-Ok-Some.next c.put_apart.result h.fresh found (c.put_apart.ensures.answer n e h found.sets (found.written, found.ordered))

pub returns-in-Ok-Some-clause-put : goal.returns-in-Ok-Some-clause-put
returns-in-Ok-Some-clause-put c =
    let found = rw c.in-Ok-Some.field-0-is at c.in-Ok-Some.ensures in
    retyping_put c.args.order.now (c.args.maxidx + 65) c.args.path.now.fresh c.args.typs.now.0 c.args.typs.now.1 c.args.pairs.now c.in-Ok-Some.map c.in-Ok-Some.next c.put_apart.result found (c.put_apart.ensures.put found.sets (found.written, found.ordered))

pub returns-in-Ok-None-clause-answer : goal.returns-in-Ok-None-clause-answer
returns-in-Ok-None-clause-answer c n e h = retyping_none c.args.order.now c.args.maxidx c.args.path.now.fresh n c.args.typs.now.0 c.args.typs.now.1 h.fresh (rw c.in-Ok-None.field-0-is at c.in-Ok-None.ensures)

pub returns-in-Err-clause-answer : goal.returns-in-Err-clause-answer
returns-in-Err-clause-answer c n e h = retyping_fault c.args.order.now c.args.maxidx c.args.path.now.fresh n c.args.typs.now.0 c.args.typs.now.1 c.in-Err.fault h.fresh c.in-Err.ensures
