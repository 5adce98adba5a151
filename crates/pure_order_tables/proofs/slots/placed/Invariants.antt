use Rattle.std.proofs.Common.{◌≡◌, ℕ, map, take}
use Rattle.pure_shared_maps.specs.View.{pairs_of}
use Rattle.pure_order_tables.proofs.slots.placed.Given as goal

abbrev pub invariant-loop-class : goal.invariant-loop-class
invariant-loop-class l = pairs_of l.entries.items ≡ map (λ (d : ℕ). (d, l.place)) (take l.class-index l.classes)
