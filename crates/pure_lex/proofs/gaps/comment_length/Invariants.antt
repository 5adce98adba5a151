use Rattle.std.proofs.Common.{◌-◌, length}
use Rattle.pure_lex.proofs.Comments.{Reading}
use Rattle.pure_lex.proofs.gaps.comment_length.Given as goal

abbrev pub invariant-loop-at : goal.invariant-loop-at
invariant-loop-at l = Reading l.text l.depth l.at

abbrev pub decreases-loop-at : goal.decreases-loop-at
decreases-loop-at l = length l.text - l.at
