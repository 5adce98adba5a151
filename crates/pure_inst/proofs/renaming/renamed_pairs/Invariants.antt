use Rattle.std.proofs.Common.{◌≡◌, map, take}
use Rattle.pure_inst.specs.Renaming.{renamed}
use Rattle.pure_inst.specs.Image.{pair_image}
use Rattle.pure_inst.proofs.renaming.renamed_pairs.Given as goal

abbrev pub invariant-loop-pair : goal.invariant-loop-pair
invariant-loop-pair l = l.images.items ≡ map (pair_image (renamed l.renaming)) (take l.pair-index l.pairs)
