use Rattle.std.proofs.Common.{◌≡◌, ◌+◌, ◌*◌, take, map}
use Rattle.pure_definitions.specs.Types.Typ.{typ_depth, typs_depth, typs_of}
use Rattle.pure_unify.specs.Later.{typ_later}
use Rattle.pure_unify.proofs.comes.+comes.Given as goal

abbrev pub decreases-comes_to : goal.decreases-comes_to
decreases-comes_to l = 2 * typ_depth l.other.now

abbrev pub decreases-come_to : goal.decreases-come_to
decreases-come_to l = 2 * typs_depth (typs_of l.others.now) + 1

abbrev pub invariant-come_to-loop-i : goal.invariant-come_to-loop-i
invariant-come_to-loop-i l = map (typ_later l.settings) (take l.i l.types) ≡ take l.i l.others
