use Rattle.std.proofs.Common.{take}
use Rattle.pure_text.specs.Lists.{Each}
use Rattle.pure_promise.specs.Accepting.{IsForkedBefore}
use Rattle.pure_promise.proofs.promise.first_unforked.Given as goal

abbrev pub invariant-loop-label : goal.invariant-loop-label
invariant-loop-label l = Each (IsForkedBefore l.forked l.number) (take l.label-index l.labels)
