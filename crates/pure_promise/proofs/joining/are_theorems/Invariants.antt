use Rattle.std.proofs.Common.{take}
use Rattle.pure_text.specs.Lists.{Each}
use Rattle.pure_promise.specs.Joining.{IsTheorem}
use Rattle.pure_promise.proofs.joining.are_theorems.Given as goal

abbrev pub invariant-loop-entry : goal.invariant-loop-entry
invariant-loop-entry l = Each IsTheorem (take l.entry-index l.entries)
