use Rattle.std.proofs.Common.{◌≡◌, map, take}
use Rattle.pure_definitions.specs.Terms.Subst.{typ_image, typ_instance}
use Rattle.pure_typ.proofs.instance.+instance_of.Given as goal

abbrev pub invariant-loop-arg : goal.invariant-loop-arg
invariant-loop-arg l = l.images.items ≡ map (typ_instance (typ_image l.binds)) (take l.arg-index l.args)
