use Rattle.pure_shared_maps.proofs.GrownLaws.{found_last, passed_last}
use Rattle.pure_shared_maps.proofs.map.last_found.Goals as goal
use Rattle.pure_shared_maps.proofs.map.last_found.Goals.{then-entry-key, else-entry-key}

pub loop-entry-preserved : goal.loop-entry-preserved
loop-entry-preserved g c m = elim c.if-entry-key.branch [
  | then-entry-key w ↦ rw w.found-is (found_last m c.args.entries.now c.loop-entry.entry-index c.entry-item.result c.args.key w.deref.result.now c.loop-entry-test.true c.entry-item.is w.if-entry-key.true w.deref.ensures)
  | else-entry-key w ↦ rw (w.found-is, passed_last m c.args.entries.now c.loop-entry.entry-index c.entry-item.result c.args.key c.loop-entry-test.true c.entry-item.is w.if-entry-key.false) (c.loop-entry.invariant m)
]
