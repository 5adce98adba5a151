use Rattle.pure_shared_maps.proofs.GrownLaws.{put_turn}
use Rattle.pure_shared_maps.proofs.map.put_entries.Goals as goal

pub loop-entry-preserved : goal.loop-entry-preserved
loop-entry-preserved g c = put_turn c.loop-entry.all c.put_entry.new.all _ c.args.entries.now c.loop-entry.entry-index c.entry-item.result c.loop-entry-test.true c.entry-item.is c.in_ok-put_entry.ensures c.loop-entry.invariant
