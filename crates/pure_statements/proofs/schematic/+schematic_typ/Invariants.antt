use Rattle.std.proofs.Common.{◌≡◌, map, take}
use Rattle.pure_definitions.specs.Terms.Subst.{typ_instance}
use Rattle.pure_logic.specs.Content.{schematic_typ_variable}
use Rattle.pure_statements.proofs.schematic.+schematic_typ.Given as goal

-- what is made so far
abbrev pub invariant-loop-arg : goal.invariant-loop-arg
invariant-loop-arg l = l.images.items ≡ map (typ_instance schematic_typ_variable) (take l.arg-index l.args)
