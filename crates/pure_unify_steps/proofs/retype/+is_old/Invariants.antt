use Rattle.std.proofs.Common.{◌+◌, ◌*◌, take}
use Rattle.pure_definitions.specs.Types.Typ.{typ_depth, typs_depth, typs_of}
use Rattle.pure_unify_steps.specs.Old.{HaveNoFresh}
use Rattle.pure_unify_steps.proofs.retype.+is_old.Given as goal

abbrev pub decreases-is_old : goal.decreases-is_old
decreases-is_old l = 2 * typ_depth l.t.now

abbrev pub decreases-are_old : goal.decreases-are_old
decreases-are_old l = 2 * typs_depth (typs_of l.types.now) + 1

abbrev pub invariant-are_old-loop-typ : goal.invariant-are_old-loop-typ
invariant-are_old-loop-typ l = HaveNoFresh l.index l.from (typs_of (take l.typ-index l.types))
