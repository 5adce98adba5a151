use Rattle.std.proofs.Common.{◌≡◌, drop, length, ◌≤◌}
use Rattle.std.specs.Prelude.{reverse}
use Rattle.pure_unify.proofs.unifier.typs_in_order.Given as goal

abbrev pub invariant-loop-left : goal.invariant-loop-left
invariant-loop-left l = record {
  out : l.map ≡ reverse (drop l.left l.binds);
  short : l.left ≤ length l.binds;
}

abbrev pub decreases-loop-left : goal.decreases-loop-left
decreases-loop-left l = l.left
