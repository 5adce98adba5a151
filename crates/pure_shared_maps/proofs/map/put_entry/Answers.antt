use Rattle.pure_shared_maps.proofs.GrownLaws.{put_map}
use Rattle.pure_shared_maps.proofs.map.put_entry.Goals as goal

pub returns : goal.returns
returns g c = put_map c.args.all.now c.insert.new.self c.args.entry.now.key c.in_ok-value.value c.args.entry.now.value.value c.in_ok-insert.ensures.updates c.in_ok-value.ensures
