use Rattle.std.proofs.Common.{length, ap, arith}
use Rattle.pure_tunify.proofs.GraphClassLaws.{long_demand}
use Rattle.pure_tunify.proofs.demands.demand_of.Goals as goal

pub returns-then-kids-domains : goal.returns-then-kids-domains
returns-then-kids-domains c =
    let kids = ap length c.as_slice-kids.ensures.value in
    rw c.in-Made.is
    (long_demand c.args.order.now c.args.work.now.items c.args.work.now.items c.args.class c.in-Made.name c.in-Made.kids.items c.in-Some.domains.now c.in-Some.ensures.of_class
    (λ e. omega (arith, c.if-kids-domains.true, kids, e)))
