use Rattle.std.proofs.Common.{take}
use Rattle.pure_tunify.specs.Asks.{AreUnions}
use Rattle.pure_tunify.proofs.asks.unions.Given as goal

abbrev pub invariant-loop-i : goal.invariant-loop-i
invariant-loop-i l = AreUnions (take l.i l.left) (take l.i l.right) l.sorts.items
