use Rattle.std.proofs.Common.{◌≡◌, map, take}
use Rattle.pure_definitions.specs.Terms.Subst.{typ_instance}
use Rattle.pure_declare.specs.Fixing.{fixed_typ_variable}
use Rattle.pure_declare.proofs.fixing.+fixed_typ.Given as goal

-- what is made so far
abbrev pub invariant-loop-arg : goal.invariant-loop-arg
invariant-loop-arg l = l.images.items ≡ map (typ_instance fixed_typ_variable) (take l.arg-index l.args)
