use Rattle.pure_shared_maps.proofs.GrownLaws.{cloned_map}
use Rattle.pure_shared_maps.proofs.map.copied_front.Goals as goal

pub returns-in_ok-copy-in-Some : goal.returns-in_ok-copy-in-Some
returns-in_ok-copy-in-Some g c = cloned_map c.args.front.now c.in-Some.front c.deref.result.now c.in_ok-copy-in-Some.copy c.in-Some.is c.deref.ensures c.in_ok-copy-in-Some.ensures.cases
