use Rattle.std.proofs.Common.{length, ap, arith}
use Rattle.pure_resolve.proofs.RestLaws.{front_stops, first_of, front_taken}
use Rattle.pure_resolve.proofs.open.+put_first.Goals as goal

pub returns-in_default : goal.returns-in_default
returns-in_default t c = λ front others C stand n. absurd (front_stops c.args.t.now front others C c.args.count c.in_default.ensures stand n c.if-count-eq0.false)

pub returns : goal.returns
returns t c = λ front others C stand n.
    let f = first_of c.args.t.now c.in-Some.premise.now c.in-Some.rest.now front others C c.args.count c.in-Some.ensures stand n c.if-count-eq0.false in
    let one = ap length f.is in
    front_taken _ c.put_first.new.premises.items c.args.premises.now.items c.push.new.self.items c.in-Some.premise.now c.in-Some.rest.now c.in_ok-copy.field-0 front others C f c.put_first.result c.in_ok-push.ensures.items c.in_ok-copy.ensures
    (c.put_first.ensures f.rest others C f.chained (omega (arith, n, one)))
