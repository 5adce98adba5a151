use Rattle.std.proofs.Common.{◌+◌, ◌*◌, take}
use Rattle.pure_definitions.specs.Types.Typ.{typ_depth, typs_depth, typs_of}
use Rattle.pure_definitions.specs.Types.Occurs.{OccursInTyps}
use Rattle.pure_typ.proofs.occurs.+occurs_in_typ.Given as goal

abbrev pub decreases-occurs_in_typ : goal.decreases-occurs_in_typ
decreases-occurs_in_typ l = 2 * typ_depth l.t.now

abbrev pub decreases-occurs_in_some : goal.decreases-occurs_in_some
decreases-occurs_in_some l = 2 * typs_depth (typs_of l.types.now) + 1

-- it occurs in none so far
abbrev pub invariant-occurs_in_some-loop-typ : goal.invariant-occurs_in_some-loop-typ
invariant-occurs_in_some-loop-typ l = ¬ OccursInTyps l.v (typs_of (take l.typ-index l.types))
