use Rattle.std.proofs.Common.{take}
use Rattle.pure_text.specs.Lists.{Each}
use Rattle.pure_term_rows.specs.Texts.{IsBelow}
use Rattle.pure_term_rows.proofs.texts.are_below.Given as goal

abbrev pub invariant-loop-lower : goal.invariant-loop-lower
invariant-loop-lower l = Each (IsBelow l.text) (take l.lower-index l.texts)
