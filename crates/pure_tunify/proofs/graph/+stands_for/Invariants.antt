use Rattle.std.proofs.Common.{map, take, ◌+◌, ◌*◌}
use Rattle.pure_definitions.specs.Types.Typ.{typ_depth, typs_depth, typs_of}
use Rattle.pure_tunify.specs.Graphs.{StandForEach}
use Rattle.pure_tunify.specs.GraphCode.{part_of}
use Rattle.pure_tunify.proofs.graph.+stands_for.Given as goal

abbrev pub decreases-stands_for : goal.decreases-stands_for
decreases-stands_for l = 2 * typ_depth l.t.now

abbrev pub decreases-stand_for_each : goal.decreases-stand_for_each
decreases-stand_for_each l = 2 * typs_depth (typs_of l.types.now) + 1

abbrev pub invariant-stand_for_each-loop-i : goal.invariant-stand_for_each-loop-i
invariant-stand_for_each-loop-i l = StandForEach (map part_of l.nodes) (take l.i l.kids) (typs_of (take l.i l.types))
