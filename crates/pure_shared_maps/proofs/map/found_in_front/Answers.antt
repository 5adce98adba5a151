use Rattle.pure_shared_maps.proofs.GrownLaws.{no_front, none_in_front, some_in_front}
use Rattle.pure_shared_maps.proofs.map.found_in_front.Goals as goal

pub returns-in-None : goal.returns-in-None
returns-in-None g c = no_front c.args.front.now c.args.key c.in-None.is

pub returns-in-None-get : goal.returns-in-None-get
returns-in-None-get g c = none_in_front c.args.front.now c.in-Some.front c.args.key c.in-Some.is (rw c.deref.ensures at c.in-None-get.ensures.value)

pub returns-in-Some-get : goal.returns-in-Some-get
returns-in-Some-get g c = some_in_front c.args.front.now c.in-Some.front c.in-Some-get.value.now c.args.key c.deref-in-Some-get.result.now c.in-Some.is (rw c.deref.ensures at c.in-Some-get.ensures.value) c.deref-in-Some-get.ensures
