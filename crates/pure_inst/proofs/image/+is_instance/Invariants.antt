use Rattle.std.proofs.Common.{◌≡◌, ◌+◌, ◌*◌, take}
use Rattle.pure_text.specs.Lists.{EachTwo}
use Rattle.pure_definitions.specs.Types.Typ.{typ_depth, typs_depth, typs_of}
use Rattle.pure_definitions.specs.Terms.Subst.{typ_image, typ_instance}
use Rattle.pure_inst.proofs.image.+is_instance.Given as goal

abbrev pub decreases-is_instance : goal.decreases-is_instance
decreases-is_instance l = 3 * typ_depth l.t.now

abbrev pub decreases-con_is_instance : goal.decreases-con_is_instance
decreases-con_is_instance l = 3 * typs_depth (typs_of l.args.now) + 2

abbrev pub decreases-are_instances : goal.decreases-are_instances
decreases-are_instances l = 3 * typs_depth (typs_of l.types.now) + 1

-- the types so far are the instances
abbrev pub invariant-are_instances-loop-i : goal.invariant-are_instances-loop-i
invariant-are_instances-loop-i l = EachTwo (λ t u. typ_instance (typ_image l.typs) t ≡ u) (take l.i l.types) (take l.i l.others)
