use Rattle.std.proofs.Common.{◌≡◌, length, map, take}
use Rattle.pure_promise_fates.specs.Reach.{IsReach}
use Rattle.pure_promise_fates.proofs.reach.reach_of.Given as goal

abbrev pub invariant-loop-label : goal.invariant-loop-label
invariant-loop-label g l = IsReach (map g.E.Reported.entry l.entries) (take l.label-index l.rests) l.reach × (length l.reach.row ≡ l.width)
