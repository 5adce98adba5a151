use Rattle.std.proofs.Common.{[], map, ◌-◌}
use Rattle.pure_definitions.specs.Types.Typ.{TFree}
use Rattle.pure_definitions.specs.Terms.Term.{Var}
use Rattle.pure_definitions.specs.Terms.Subst.{term_variable}
use Rattle.pure_definitions.specs.Models.Comparison.{term_cmp}
use Rattle.pure_typ.specs.Ascending.{IsBetween}
use Rattle.pure_term.proofs.maps.place_of.Given as goal

abbrev pub invariant-loop-low : goal.invariant-loop-low
invariant-loop-low l = IsBetween term_cmp (Var 0 0 (TFree 0 [])) (map term_variable l.binds) l.places (Var l.name l.index l.typ) l.low l.high

abbrev pub decreases-loop-low : goal.decreases-loop-low
decreases-loop-low l = l.high - l.low
