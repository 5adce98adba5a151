use Rattle.std.proofs.Common.{rules, ap, inl, inr}
use Rattle.pure_shared_maps.specs.View.{front_values}
use Rattle.pure_shared_maps.proofs.GrownLaws.{folded_list}
use Rattle.pure_shared_maps.proofs.list.folded.Goals as goal

pub returns-clause-all : goal.returns-clause-all
returns-clause-all g c =
    let back = c.make_mut.follows.holds c.append.new.self (search rules) in
    rw back (folded_list (front_values c.args.front) c.in_ok-own.own.value.items c.in_ok-all.all.now.items c.append.new.self.items c.args.items.now.items c.in_ok-own.ensures
    (elim c.in_ok-all.ensures.value [ inl e ↦ inl (ap (λ v. v.items) e) | inr k ↦ inr k.0 ]) c.in_ok-append.ensures.items)
