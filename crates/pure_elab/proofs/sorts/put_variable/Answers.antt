use Rattle.pure_elab.proofs.SortLaws.{has_more, has_new}
use Rattle.pure_elab.proofs.sorts.put_variable.Goals as goal

pub returns-clause-kept : goal.returns-clause-kept
returns-clause-kept c x m = rw c.in_ok-push.ensures.items (has_more c.args.table.now.items (record { name = c.args.name; sort = c.in_ok-sort.sort }) x m)

pub returns-clause-new : goal.returns-clause-new
returns-clause-new c = rw c.in_ok-push.ensures.items (has_new c.args.table.now.items (record { name = c.args.name; sort = c.in_ok-sort.sort }))
