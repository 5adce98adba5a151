use Rattle.std.proofs.Common.{◌≡◌, ◌++◌, map, take}
use Rattle.pure_definitions.specs.Terms.Subst.{typ_variable}
use Rattle.pure_tunify.proofs.large.left_types.Given as goal

abbrev pub invariant-loop-bind : goal.invariant-loop-bind
invariant-loop-bind l = l.typs.items ≡ map typ_variable (take l.bind-index l.bind-items)

abbrev pub invariant-loop-pair : goal.invariant-loop-pair
invariant-loop-pair l = l.typs.items ≡ map typ_variable l.settings.sets ++ map (λ p. p.left) (take l.pair-index l.work)
