use Rattle.pure_elab.specs.Written.{classes_at}
use Rattle.pure_elab.proofs.SortLaws.{reduced_union}
use Rattle.pure_elab.proofs.sorts.reduced_at.Goals as goal

pub returns : goal.returns
returns c = reduced_union c.args.order.now (classes_at c.args.written.now c.args.name) c.in_ok-union.union c.in_ok-sort.sort c.in_ok-union.ensures c.in_ok-sort.ensures.reduced c.classes.ensures.ascend
