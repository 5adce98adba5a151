use Rattle.std.proofs.Common.{length, ◌-◌, ◌+◌}
use Rattle.std.specs.Ordering.{nat_cmp}
use Rattle.pure_text.proofs.MergeLaws.{Merges}
use Rattle.pure_typ.proofs.sort.merged.Given as goal

abbrev pub invariant-loop-i : goal.invariant-loop-i
invariant-loop-i l = Merges nat_cmp l.left l.right l.i l.j l.classes.items

abbrev pub decreases-loop-i : goal.decreases-loop-i
decreases-loop-i l = (length l.left - l.i) + (length l.right - l.j)
