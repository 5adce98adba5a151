use Rattle.std.proofs.Common.{◌+◌, ◌*◌}
use Rattle.pure_definitions.specs.Types.Typ.{typ_depth, typs_depth, typs_of}
use Rattle.pure_order.proofs.WalkLaws.{SoFar}
use Rattle.pure_order.proofs.walk.+is_of_domain.Given as goal

abbrev pub decreases-is_of_domain : goal.decreases-is_of_domain
decreases-is_of_domain l = 2 * typ_depth l.t.now

abbrev pub decreases-are_of_domains : goal.decreases-are_of_domains
decreases-are_of_domains l = 2 * typs_depth (typs_of l.types.now) + 1

abbrev pub invariant-are_of_domains-loop-i : goal.invariant-are_of_domains-loop-i
invariant-are_of_domains-loop-i l = SoFar l.tables l.places l.types l.i
