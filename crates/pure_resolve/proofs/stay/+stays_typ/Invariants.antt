use Rattle.std.proofs.Common.{◌≡◌, ◌+◌, ◌*◌, take}
use Rattle.pure_text.specs.Lists.{Each}
use Rattle.pure_definitions.specs.Types.Typ.{Typ, typ_depth, typs_depth, typs_of}
use Rattle.pure_definitions.specs.Terms.Subst.{typ_image, typ_instance}
use Rattle.pure_resolve.proofs.stay.+stays_typ.Given as goal

abbrev pub decreases-stays_typ : goal.decreases-stays_typ
decreases-stays_typ l = 2 * typ_depth l.t.now

abbrev pub decreases-all_stay : goal.decreases-all_stay
decreases-all_stay l = 2 * typs_depth (typs_of l.types.now) + 1

-- those so far stay as they are
abbrev pub invariant-all_stay-loop-typ : goal.invariant-all_stay-loop-typ
invariant-all_stay-loop-typ l = Each (λ (t : Typ). typ_instance (typ_image l.typs) t ≡ t) (take l.typ-index l.types)
