use Rattle.std.proofs.Common.{drop}
use Rattle.pure_text.specs.Lists.{AnyOf}
use Rattle.pure_definitions.specs.Terms.Subst.{typ_image}
use Rattle.pure_unify_steps.specs.Gathered.{IsSameAs, HasSame}
use Rattle.pure_unify_steps.proofs.gather.has_same.Given as goal

abbrev pub invariant-loop-other : goal.invariant-loop-other
invariant-loop-other l = HasSame (typ_image l.typs) l.v l.list → AnyOf (IsSameAs (typ_image l.typs) l.v) (drop l.other-index l.list)
