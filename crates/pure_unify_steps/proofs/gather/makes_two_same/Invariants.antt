use Rattle.std.proofs.Common.{drop}
use Rattle.pure_text.specs.Lists.{AnyOf}
use Rattle.pure_definitions.specs.Terms.Subst.{typ_image}
use Rattle.pure_unify_definitions.specs.Retyping.{MakesTwoSame}
use Rattle.pure_unify_steps.specs.Gathered.{HasSame}
use Rattle.pure_unify_steps.proofs.gather.makes_two_same.Given as goal

abbrev pub invariant-loop-v : goal.invariant-loop-v
invariant-loop-v l = MakesTwoSame (typ_image l.typs) l.list → AnyOf (λ v. HasSame (typ_image l.typs) v l.list) (drop l.v-index l.list)
