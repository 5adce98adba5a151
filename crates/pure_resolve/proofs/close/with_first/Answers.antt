use Rattle.pure_resolve.proofs.SharedLaws.{first_replaced}
use Rattle.pure_resolve.proofs.close.with_first.Goals as goal

pub returns : goal.returns
returns c A B e =
    first_replaced c.args.t.now c.in-Some.field-0-0.now c.in-Some.rest.now c.in_ok-conclusion.conclusion c.args.first A B c.implication_by.result c.in-Some.ensures c.in_ok-conclusion.ensures e c.implication_by.ensures
