use Rattle.std.proofs.Common.{[], map, ◌-◌}
use Rattle.pure_definitions.specs.Types.Typ.{TVar}
use Rattle.pure_definitions.specs.Terms.Subst.{typ_variable}
use Rattle.pure_definitions.specs.Models.Comparison.{typ_cmp}
use Rattle.pure_typ.specs.Ascending.{IsBetween}
use Rattle.pure_typ.proofs.maps.place_of.Given as goal

abbrev pub invariant-loop-low : goal.invariant-loop-low
invariant-loop-low l = IsBetween typ_cmp (TVar 0 0 []) (map typ_variable l.binds) l.places (TVar l.name l.index l.sort) l.low l.high

abbrev pub decreases-loop-low : goal.decreases-loop-low
decreases-loop-low l = l.high - l.low
