use Rattle.pure_unify_nodes.proofs.OwnLaws.{on_true}
use Rattle.pure_unify.proofs.ClashLaws.{clashing_visit}
use Rattle.pure_unify.proofs.clash.fails_at_once.Goals as goal

pub returns : goal.returns
returns c = on_true c.are_own.result (clashing_visit c.args.pairs.now (rw c.if-not-are_clashing.false at c.are_clashing.ensures)) c.are_own.ensures
