use Rattle.std.proofs.Common.{length, ◌-◌, ◌+◌}
use Rattle.pure_definitions.specs.Models.Comparison.{term_cmp}
use Rattle.pure_theorem.proofs.SetLaws.{Merges}
use Rattle.pure_theorem.proofs.sets.merged_terms.Given as goal

abbrev pub invariant-loop-i : goal.invariant-loop-i
invariant-loop-i l = Merges term_cmp l.left l.right l.i l.j l.all.items

abbrev pub decreases-loop-i : goal.decreases-loop-i
decreases-loop-i l = (length l.left - l.i) + (length l.right - l.j)
