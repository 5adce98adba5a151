use Rattle.pure_theory.specs.Begin.{contents}
use Rattle.pure_theory.proofs.MergeLaws.{begun_stage}
use Rattle.pure_theory.proofs.theory.Theory.begin.Goals as goal

pub invariant_of-result : goal.invariant_of-result
invariant_of-result c =
    begun_stage (record { name = c.args.name; index = c.args.index }) (contents c.args.parents.now) _ _ _ c.in_ok-merged.ensures.sound c.requires.agreed c.requires.apart c.requires.new c.requires.some (rw (← c.merged.view_is) at c.in_ok-merged.ensures.ok) c.in_ok-ancestors.ensures c.merged.invariant
