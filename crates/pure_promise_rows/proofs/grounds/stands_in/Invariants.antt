use Rattle.std.proofs.Common.{take}
use Rattle.pure_text.specs.Lists.{IsIn}
use Rattle.pure_promise_rows.proofs.grounds.stands_in.Given as goal

abbrev pub invariant-loop-other : goal.invariant-loop-other
invariant-loop-other l = ¬ IsIn l.label (take l.other-index l.labels)
