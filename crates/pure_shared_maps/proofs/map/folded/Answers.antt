use Rattle.std.proofs.Common.{rules, inl, inr}
use Rattle.pure_shared_maps.specs.View.{front_map, pairs_of}
use Rattle.pure_shared_maps.proofs.GrownLaws.{folded_map}
use Rattle.pure_shared_maps.proofs.map.folded.Goals as goal

pub returns : goal.returns
returns g c =
    let back = c.make_mut.follows.holds c.put_entries.new.all (search rules) in
    rw back (folded_map (front_map c.args.front) c.in_ok-own.own.value c.in_ok-all.all.now c.put_entries.new.all (pairs_of c.args.entries.now) c.in_ok-own.ensures
    (elim c.in_ok-all.ensures.value [ inl e ↦ inl e | inr k ↦ inr k ]) c.in_ok-put_entries.ensures)
