use Rattle.std.proofs.Common.{length, ◌-◌, ◌+◌}
use Rattle.pure_text.proofs.AscendingTexts.{byte_order}
use Rattle.pure_text.proofs.MergeLaws.{Merges}
use Rattle.pure_text.proofs.text_list.merged.Given as goal

abbrev pub invariant-loop-i : goal.invariant-loop-i
invariant-loop-i l = Merges byte_order l.left l.right l.i l.j l.all

abbrev pub decreases-loop-i : goal.decreases-loop-i
decreases-loop-i l = (length l.left - l.i) + (length l.right - l.j)
