use Rattle.std.proofs.Common.{◌≡◌, map, take}
use Rattle.pure_definitions.specs.Terms.Subst.{typ_instance}
use Rattle.pure_inst.specs.Renaming.{renamed_typs}
use Rattle.pure_definitions.specs.Types.Typ.{typ_depth}
use Rattle.pure_inst.proofs.renaming.+renamed_typ.Given as goal

abbrev pub decreases-renamed_typ : goal.decreases-renamed_typ
decreases-renamed_typ l = typ_depth l.t.now

abbrev pub invariant-loop-arg : goal.invariant-loop-arg
invariant-loop-arg l = l.images.items ≡ map (typ_instance (renamed_typs l.renaming)) (take l.arg-index l.args)
