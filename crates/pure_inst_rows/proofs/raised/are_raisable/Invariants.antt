use Rattle.std.proofs.Common.{take}
use Rattle.pure_text.specs.Lists.{Each}
use Rattle.pure_inst.specs.Renaming.{IsRaisable}
use Rattle.pure_inst_rows.proofs.raised.are_raisable.Given as goal

abbrev pub invariant-loop-term : goal.invariant-loop-term
invariant-loop-term l = Each (IsRaisable l.by) (take l.term-index l.terms)
