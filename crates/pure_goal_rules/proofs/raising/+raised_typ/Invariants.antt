use Rattle.std.proofs.Common.{◌≡◌, map, take}
use Rattle.pure_definitions.specs.Types.Typ.{typ_depth}
use Rattle.pure_definitions.specs.Terms.Subst.{typ_instance}
use Rattle.pure_logic.specs.Laws.Maps.{raised_typs}
use Rattle.pure_goal_rules.proofs.raising.+raised_typ.Given as goal

abbrev pub decreases-raised_typ : goal.decreases-raised_typ
decreases-raised_typ l = typ_depth l.t.now

abbrev pub invariant-loop-arg : goal.invariant-loop-arg
invariant-loop-arg l = l.images.items ≡ map (typ_instance (raised_typs l.by)) (take l.arg-index l.args)
