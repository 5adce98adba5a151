use Rattle.std.proofs.Common.{◌≡◌, ◌++◌, map}
use Rattle.std.specs.Vec.Iter.{into_iter_items}
use Rattle.pure_text.specs.Lists.{Each}
use Rattle.pure_definitions.specs.Terms.Subst.{term_image}
use Rattle.pure_pattern_bounds.specs.Put.{bind_put}
use Rattle.pure_pattern.specs.Held.{IsLowImage, IsImageWithin}
use Rattle.pure_pattern.proofs.put.put_binds.Given as goal

-- What was made and what is left with the images put in is the whole.
abbrev pub invariant-loop-bind : goal.invariant-loop-bind
invariant-loop-bind l =
    (l.made.items ++ map (bind_put (term_image l.binds)) (into_iter_items l.bind-iterator) ≡ map (bind_put (term_image l.binds)) l.fn.old.items)
    × Each IsImageWithin l.made.items
    × Each IsLowImage (into_iter_items l.bind-iterator)
