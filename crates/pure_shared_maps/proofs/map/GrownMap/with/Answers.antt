use Rattle.std.proofs.Common.{◌≡◌, ◌∷◌, [], ◌∙◌}
use Rattle.pure_shared_maps.specs.View.{front_map, pairs_of, puts}
use Rattle.pure_shared_maps.proofs.GrownLaws.{put_more}
use Rattle.pure_shared_maps.proofs.map.GrownMap.with.Goals as goal
use Rattle.pure_shared_maps.proofs.map.GrownMap.with.Goals.{then-len-most_behind+in_ok-folded, else-len-most_behind}

pub returns : goal.returns
returns g c =
    let before : puts (front_map c.if-len-most_behind.front) (pairs_of c.if-len-most_behind.rest.items) ≡ c.args.self = elim c.if-len-most_behind.branch [
      | then-len-most_behind+in_ok-folded w ↦ rw (w.front-is, w.rest-is, w.clear.ensures.items) ((rw w.as_slice.ensures.value at w.in_ok-folded.ensures) ∙ c.self.view_is)
      | else-len-most_behind w ↦ rw (w.front-is, w.rest-is) c.self.view_is
    ] in
    put_more (front_map c.if-len-most_behind.front) c.if-len-most_behind.rest.items c.push.new.self.items (record { key = c.args.key; value = c.args.value } ∷ []) c.args.self before c.in_ok-push.ensures.items
