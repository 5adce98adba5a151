use Rattle.pure_tunify.proofs.ReachLaws.{on_true}
use Rattle.pure_tunify.proofs.GraphSettings.{solvable_result}
use Rattle.pure_tunify.proofs.large.is_solvable.Goals as goal

pub returns : goal.returns
returns c =
    solvable_result c.args.order.now c.args.settings.now.sets c.args.work.now _ c.in_ok-left.left c.in_ok-right.right c.in_ok-lefts.lefts.items c.in_ok-rights.rights.items c.is_unifiable.result
    c.binds.ensures.tidy.triangular c.binds.ensures.distinct (on_true _ c.in_ok-sorted.sorted c.in_ok-sorted.ensures c.if-not-sorted.false) c.in_ok-lefts.ensures c.in_ok-rights.ensures c.in_ok-left.ensures c.in_ok-right.ensures c.is_unifiable.ensures
