use Rattle.std.proofs.Common.{◌≡◌, map, take}
use Rattle.pure_logic.specs.Laws.Maps.{instantiated}
use Rattle.pure_inst.specs.Image.{pair_image}
use Rattle.pure_inst.proofs.instance.images_of_pairs.Given as goal

abbrev pub invariant-loop-pair : goal.invariant-loop-pair
invariant-loop-pair l = l.made.items ≡ map (pair_image (instantiated l.typs l.terms)) (take l.pair-index l.pairs)
