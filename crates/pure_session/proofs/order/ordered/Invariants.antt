use Rattle.std.proofs.Common.{◌≡◌, ◌+◌, length}
use Rattle.pure_session.specs.Waiting.{waiting_files, all_loaded}
use Rattle.pure_session.proofs.OrderLemmas.{IsUnderWay}
use Rattle.pure_session.proofs.order.ordered.Given as goal

abbrev pub invariant-loop-at : goal.invariant-loop-at
invariant-loop-at l = record {
  way : IsUnderWay (waiting_files l.initial.rest.items) l.names l.index.items l.rest.items (all_loaded l.all.items);
  count : length l.all.items + length l.rest.items ≡ length l.initial.rest.items;
}

abbrev pub decreases-loop-at : goal.decreases-loop-at
decreases-loop-at l = length l.rest.items
