use Rattle.std.proofs.Common.{refl, arith}
use Rattle.pure_resolve.proofs.ChainLaws.{first-premise}
use Rattle.pure_resolve.proofs.StayLaws.{low_term_stays}
use Rattle.pure_resolve.proofs.RestLaws.{all_behind, stays_more, front_counted}
use Rattle.pure_resolve.proofs.stay.+count_set.Goals as goal

pub returns-then-index_above_of-least : goal.returns-then-index_above_of-least
returns-then-index_above_of-least t c = λ As C e. all_behind c.args.typs.now c.args.terms.now 0 c.args.t.now As C refl e (low_term_stays c.args.typs.now c.args.terms.now c.args.least c.requires c.args.t.now (omega arith))

pub returns-then-stays : goal.returns-then-stays
returns-then-stays t c = λ As C e.
    let p = first-premise c.args.t.now c.in-Some.premise.now c.in-Some.rest.now As C c.in-Some.ensures e in
    stays_more c.args.typs.now c.args.terms.now c.in-Some-count_set.behind c.args.t.now c.in-Some.premise.now c.in-Some.rest.now As C p c.if-behind-eq0.true (c.in-Some-count_set.ensures p.rest C p.chained) (c.stays-then-behind-eq0.ensures c.if-stays.true)

pub returns : goal.returns
returns t c = λ As C e.
    let p = first-premise c.args.t.now c.in-Some.premise.now c.in-Some.rest.now As C c.in-Some.ensures e in
    front_counted _ c.args.typs.now c.args.terms.now c.checked_add.result c.in-Some-count_set.behind c.in-Some.premise.now c.in-Some.rest.now As C p c.checked_add.ensures (c.in-Some-count_set.ensures p.rest C p.chained)
