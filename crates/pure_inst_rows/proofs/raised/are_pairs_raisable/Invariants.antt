use Rattle.std.proofs.Common.{take}
use Rattle.pure_text.specs.Lists.{Each}
use Rattle.pure_inst.specs.Renaming.{IsPairRaisable}
use Rattle.pure_inst_rows.proofs.raised.are_pairs_raisable.Given as goal

abbrev pub invariant-loop-pair : goal.invariant-loop-pair
invariant-loop-pair l = Each (IsPairRaisable l.by) (take l.pair-index l.pairs)
