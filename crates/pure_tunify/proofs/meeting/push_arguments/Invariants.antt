use Rattle.std.proofs.Common.{◌≡◌, ◌≤◌, ◌++◌, length, drop}
use Rattle.std.specs.Prelude.{reverse}
use Rattle.pure_tunify.specs.Working.{pairs_along}
use Rattle.pure_tunify.proofs.meeting.push_arguments.Given as goal

-- the pairs of the last arguments stand on top
abbrev pub invariant-loop-rest : goal.invariant-loop-rest
invariant-loop-rest l = record {
  short : l.rest ≤ length l.left;
  pushed : reverse l.work.items ≡ pairs_along (drop l.rest l.left) (drop l.rest l.right) ++ reverse l.initial.work.items;
}

abbrev pub decreases-loop-rest : goal.decreases-loop-rest
decreases-loop-rest l = l.rest
