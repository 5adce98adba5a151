use Rattle.std.proofs.Common.{◌≡◌, take, map}
use Rattle.pure_check_work.specs.Cancelled.{lemmas_of}
use Rattle.pure_check_work.proofs.entries.duties.Given as goal

abbrev pub invariant-loop-promise : goal.invariant-loop-promise
invariant-loop-promise l = map (λ d. d.value) l.duties.items ≡ lemmas_of (take l.promise-index l.promises)
