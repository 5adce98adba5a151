use Rattle.std.proofs.Common.{◌≡◌, take}
use Rattle.pure_core_end.proofs.walk.numbered.Given as goal

-- the promises so far
abbrev pub invariant-loop-number : goal.invariant-loop-number
invariant-loop-number g l = l.promises.items ≡ take l.number l.core.promises
