use Rattle.std.proofs.Common.{◌<◌, ◌/◌, length, arith}
use Rattle.pure_order_tables.proofs.RowLaws.{held_after}
use Rattle.pure_order.proofs.PlaceLaws.{places_after}
use Rattle.pure_order.proofs.places.Places.insert.Goals as goal

pub invariant_of-self : goal.invariant_of-self
invariant_of-self c = rw (c.min-self-inside.ensures, c.max-self-inside.ensures) (places_after c.self.inside.words c.self.inside.start c.self.inside.end c.args.place c.self.invariant c.requires)

pub returns : goal.returns
returns c =
    let inside : c.args.place / 64 < length c.self.inside.words = omega (arith, c.self.invariant.count, c.requires) in
    rw (← c.self.view_is) (held_after c.self.inside.words c.args.place inside)
