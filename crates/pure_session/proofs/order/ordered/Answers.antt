use Rattle.std.proofs.Common.{ap, arith, length}
use Rattle.pure_session.specs.Waiting.{waiting_files, all_loaded}
use Rattle.pure_session.proofs.OrderLemmas.{IsUnderWay-start, IsUnderWay-end, way-turn, found-inside}
use Rattle.pure_session.proofs.order.ordered.Goals as goal

pub loop-at-init : goal.loop-at-init
loop-at-init c = record {
  way = IsUnderWay-start c.args.names.now c.in_ok-index.index.items c.args.rest.items (all_loaded c.new-all.result.items) c.requires.named c.requires.ascend c.requires.places c.in_ok-index.ensures (ap all_loaded c.new-all.ensures.items);
  count = omega (arith, ap length c.new-all.ensures.items);
}

pub index_mut-requires : goal.index_mut-requires
index_mut-requires c =
    omega (
      arith,
      c.place_of-place.ensures,
      c.loop-at.index.ok,
      found-inside (waiting_files c.args.rest.items) c.args.names.now c.loop-at.index.items c.loop-at.rest.items (all_loaded c.loop-at.all.items) c.remove-waiting.result c.in-Some.at
          (record { grounded = c.requires.grounded; named = c.requires.named }) c.loop-at.invariant.way (rw (c.as_slice.ensures.value, c.as_slice-in-loop-at.ensures.value) at c.in-Some.ensures) c.remove-waiting.ensures.value,
    )

pub loop-at-preserved : goal.loop-at-preserved
loop-at-preserved c = record {
  way = way-turn (waiting_files c.args.rest.items) c.args.names.now c.loop-at.index.items c.loop-at.rest.items c.remove-waiting.new.self.items c.loop-at.all.items c.push.new.self.items c.in_ok-loaded_behind.field-0
      c.remove-waiting.result c.in-Some.at c.place_of-place.result c.len.result (record { grounded = c.requires.grounded; named = c.requires.named }) c.loop-at.invariant.way
      (rw (c.as_slice.ensures.value, c.as_slice-in-loop-at.ensures.value) at c.in-Some.ensures) c.remove-waiting.ensures.value c.remove-waiting.ensures.items
      (rw c.as_slice-in-Some.ensures.value at c.in_ok-loaded_behind.ensures) c.in_ok-push.ensures.items c.place_of-place.ensures (omega (arith, c.len.ensures, c.in_ok-push.ensures.len, c.loop-at.all.ok));
  count = omega (arith, c.loop-at.invariant.count, c.in_ok-push.ensures.len, c.remove-waiting.ensures.len, c.loop-at.all.ok, c.loop-at.rest.ok, c.push.new.self.ok, c.remove-waiting.new.self.ok);
}

pub returns : goal.returns
returns c =
    IsUnderWay-end (waiting_files c.args.rest.items) c.args.names.now c.loop-at.index.items c.loop-at.rest.items (all_loaded c.loop-at.all.items) (record { grounded = c.requires.grounded; named = c.requires.named })
    c.loop-at.invariant.way (rw (c.as_slice.ensures.value, c.as_slice-in-loop-at.ensures.value) at c.in_default.ensures)
