use Rattle.std.proofs.Common.{take}
use Rattle.pure_order_tables.specs.Exposed.{AreIn, FindsClash}
use Rattle.pure_order_tables.proofs.ConflictLaws.{AreSeen}
use Rattle.pure_order_tables.proofs.conflicts.least_clash.Given as goal

abbrev pub invariant-loop-first : goal.invariant-loop-first
invariant-loop-first l = FindsClash (AreIn (take l.first-index l.firsts) l.seconds) l.least

abbrev pub invariant-loop-second : goal.invariant-loop-second
invariant-loop-second l = FindsClash (AreSeen l.firsts l.first-index l.first l.seconds l.second-index) l.least
