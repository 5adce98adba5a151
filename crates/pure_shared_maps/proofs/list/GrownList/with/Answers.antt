use Rattle.std.proofs.Common.{◌≡◌, ◌++◌, ◌∙◌, append-nil}
use Rattle.pure_shared_maps.specs.View.{front_values, values_of}
use Rattle.pure_shared_maps.proofs.GrownLaws.{one_behind}
use Rattle.pure_shared_maps.proofs.list.GrownList.with.Goals as goal
use Rattle.pure_shared_maps.proofs.list.GrownList.with.Goals.{then-len-max+in_ok-folded, else-len-max}

pub returns : goal.returns
returns g c =
    let before : front_values c.if-len-max.front ++ values_of c.if-len-max.rest.items ≡ c.args.self = elim c.if-len-max.branch [
      | then-len-max+in_ok-folded w ↦ rw (w.front-is, w.rest-is, w.in_ok-folded.ensures.moved) (append-nil _ ∙ w.in_ok-folded.ensures.all ∙ c.self.view_is)
      | else-len-max w ↦ rw (w.front-is, w.rest-is) c.self.view_is
    ] in
    one_behind (front_values c.if-len-max.front) c.if-len-max.rest.items c.push.new.self.items c.args.item c.args.self before c.in_ok-push.ensures.items
