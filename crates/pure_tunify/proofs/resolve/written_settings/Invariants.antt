use Rattle.std.proofs.Common.{drop, length, ◌≤◌}
use Rattle.pure_tunify.specs.Working.{AreWrittenOut}
use Rattle.pure_tunify.proofs.resolve.written_settings.Given as goal

abbrev pub invariant-loop-left : goal.invariant-loop-left
invariant-loop-left l = record {
  out : AreWrittenOut l.settings (drop l.left l.settings.sets) l.done;
  short : l.left ≤ length l.settings.sets;
}

abbrev pub decreases-loop-left : goal.decreases-loop-left
decreases-loop-left l = l.left
