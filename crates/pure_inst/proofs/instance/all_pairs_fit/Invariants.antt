use Rattle.std.proofs.Common.{take}
use Rattle.pure_text.specs.Lists.{Each}
use Rattle.pure_logic.specs.Derivable.{Pair}
use Rattle.pure_logic.specs.Laws.Maps.{instantiated}
use Rattle.pure_theorem.specs.Within.{IsPairWithin}
use Rattle.pure_inst.specs.Image.{pair_image}
use Rattle.pure_inst.proofs.instance.all_pairs_fit.Given as goal

-- the images so far are within the limits
abbrev pub invariant-loop-pair : goal.invariant-loop-pair
invariant-loop-pair l = Each (λ (p : Pair). IsPairWithin (pair_image (instantiated l.typs l.terms) p)) (take l.pair-index l.pairs)
