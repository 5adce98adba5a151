use Rattle.pure_order.proofs.WalkLaws.{greatest_at, other_count}
use Rattle.pure_order.proofs.walk.greatest.Goals as goal

pub returns-then-domains-count : goal.returns-then-domains-count
returns-then-domains-count c = other_count c.args.tables.now c.args.con c.args.class c.args.count c.in_ok-place.place
    (greatest_at c.args.tables.now c.order_is_decided.ensures c.requires c.args.con c.args.class c.in_ok-place.place c.in_ok-place.ensures)
    (rw c.domains.ensures at c.if-domains-count.true)

pub returns : goal.returns
returns c = record {
  has = record { within = c.in_ok-place.ensures.within; long = rw c.domains.ensures at c.if-domains-count.false };
  greatest = greatest_at c.args.tables.now c.order_is_decided.ensures c.requires c.args.con c.args.class c.in_ok-place.place c.in_ok-place.ensures;
}
