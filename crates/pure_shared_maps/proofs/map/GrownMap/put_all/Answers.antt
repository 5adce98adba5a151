use Rattle.pure_shared_maps.specs.View.{front_map}
use Rattle.pure_shared_maps.proofs.GrownLaws.{put_more}
use Rattle.pure_shared_maps.proofs.map.GrownMap.put_all.Goals as goal
use Rattle.pure_shared_maps.proofs.map.GrownMap.put_all.Goals.{then-len-most+in_ok-fold, else-len-most+in_ok-append}

pub returns-clause-ok : goal.returns-clause-ok
returns-clause-ok g c = elim c.if-len-most.branch [
  | then-len-most+in_ok-fold w ↦ rw w.self-is (rw w.as_slice.ensures.value at w.in_ok-fold.ensures.ok)
  | else-len-most+in_ok-append w ↦ rw w.self-is (put_more (front_map c.self.inside.front) c.self.inside.rest.items w.append.new.self.items c.args.entries.items c.args.self.now c.self.view_is w.in_ok-append.ensures.items)
]
