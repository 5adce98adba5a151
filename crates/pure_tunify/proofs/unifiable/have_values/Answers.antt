use Rattle.pure_tunify.proofs.ReachLaws.{on_true}
use Rattle.pure_tunify.proofs.unifiable.have_values.Goals as goal

pub returns-then-are_circular : goal.returns-then-are_circular
returns-then-are_circular c = rw c.as_slice-nodes.ensures.value at (on_true _ c.are_circular.result c.are_circular.ensures c.if-are_circular.true c.args.order.now)

pub returns : goal.returns
returns c = record {
  ranks = c.as_slice-ranks.result.now;
  asked = c.args.asked.now;
  closed = rw c.as_slice-nodes.ensures.value at (on_true _ c.is_closed.result c.is_closed.ensures c.if-not-is_closed.false);
  one = on_true _ c.in_ok-one.one c.in_ok-one.ensures c.if-not-one.false;
}
