use Rattle.std.proofs.Common.{◌≡◌, ◌+◌, take}
use Rattle.pure_replay.specs.Lines.{terms_size}
use Rattle.pure_replay.proofs.lines.terms_leave.Given as goal

abbrev pub invariant-loop-t : goal.invariant-loop-t
invariant-loop-t l = l.rest + terms_size (take l.t-index l.terms) ≡ l.left
