use Rattle.std.proofs.Common.{take}
use Rattle.pure_order_tables.specs.Others.{AreWithOthers}
use Rattle.pure_theory_tables.proofs.declarations.Declarations.with_all.Given as goal

-- the list with what those so far have beside it
abbrev pub invariant-loop-place : goal.invariant-loop-place
invariant-loop-place l = AreWithOthers l.self (take l.place l.other) l.more
