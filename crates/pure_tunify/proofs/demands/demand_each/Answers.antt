use Rattle.std.proofs.Common.{get_or}
use Rattle.pure_tunify.proofs.GraphClassLaws.{kid_of_sort, number_read}
use Rattle.pure_tunify.proofs.demands.demand_each.Goals as goal

pub loop-i-preserved : goal.loop-i-preserved
loop-i-preserved c = λ A v each of.
    c.in_ok-demand_sort.ensures A v (c.loop-i.invariant A v each of)
    (kid_of_sort A v c.args.kids.now c.args.domains.now c.loop-i.i (get_or c.args.kids.now c.loop-i.i 0) c.index-domains-i.result c.loop-i-test.true (number_read c.args.kids.now c.loop-i.i c.loop-i-test.true) c.index-domains-i.is of)
