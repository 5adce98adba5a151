use Rattle.std.proofs.Common.{◌-◌, map, length}
use Rattle.pure_citations.proofs.ReachedLaws.{IsWalked}
use Rattle.pure_citations.proofs.reach.put_reached.Given as goal

abbrev pub invariant-loop-back : goal.invariant-loop-back
invariant-loop-back g l = IsWalked (map g.E.Reported.entry l.entries) l.fn.row.items l.row.items (length l.entries - l.back)
