use Rattle.std.proofs.Common.{arith}
use Rattle.pure_resolve.proofs.StayLaws.{lower_typs, lower_terms}
use Rattle.pure_resolve.proofs.stay.least_set.Goals as goal

pub returns : goal.returns
returns c =
    let typs = rw c.binds.ensures.are at c.least_typ.ensures in
    let terms = rw c.binds-2.ensures.are at c.least_term.ensures in
    record { of_typs = lower_typs c.args.typs.now c.least_typ.result c.min.result (omega arith) typs; of_terms = lower_terms c.args.terms.now c.least_term.result c.min.result (omega arith) terms }
