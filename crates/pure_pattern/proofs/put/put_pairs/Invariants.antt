use Rattle.std.proofs.Common.{◌≡◌, ◌++◌, map}
use Rattle.std.specs.Vec.Iter.{into_iter_items}
use Rattle.pure_text.specs.Lists.{Each}
use Rattle.pure_definitions.specs.Terms.Subst.{term_image}
use Rattle.pure_pattern_rules.specs.Treated.{AreSidesWithin}
use Rattle.pure_pattern_bounds.specs.Put.{pair_put}
use Rattle.pure_pattern.specs.Held.{IsLowPair}
use Rattle.pure_pattern.proofs.put.put_pairs.Given as goal

-- What was made and what is left with the images put in is the whole.
abbrev pub invariant-loop-pair : goal.invariant-loop-pair
invariant-loop-pair l =
    (l.made.items ++ map (pair_put (term_image l.binds)) (into_iter_items l.pair-iterator) ≡ map (pair_put (term_image l.binds)) l.fn.pairs.items)
    × Each AreSidesWithin l.made.items
    × Each IsLowPair (into_iter_items l.pair-iterator)
