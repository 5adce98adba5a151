use Rattle.std.proofs.Common.{take}
use Rattle.pure_tunify.specs.Asking.{AreKnown}
use Rattle.pure_tunify.proofs.asking.known_asked.Given as goal

abbrev pub invariant-loop-one : goal.invariant-loop-one
invariant-loop-one l = AreKnown l.order (take l.one-index l.asked) l.known
