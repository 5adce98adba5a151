use Rattle.std.proofs.Common.{◌≡◌, ◌++◌, drop, map}
use Rattle.pure_definitions.specs.Terms.Subst.{typ_image, retyped_variable}
use Rattle.pure_unify_steps.proofs.gather.retyped_all.Given as goal

abbrev pub invariant-loop-v : goal.invariant-loop-v
invariant-loop-v l = map (retyped_variable (typ_image l.typs)) l.list ≡ l.made.items ++ map (retyped_variable (typ_image l.typs)) (drop l.v-index l.list)
