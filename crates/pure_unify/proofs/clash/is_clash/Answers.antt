use Rattle.std.proofs.Common.{sym, ap}
use Rattle.pure_logic.specs.Derivable.{Pair}
use Rattle.pure_unify_nodes.proofs.OwnLaws.{on_true}
use Rattle.pure_unify.proofs.ClashLaws.{clash_told}
use Rattle.pure_unify.proofs.clash.is_clash.Goals as goal

pub returns : goal.returns
returns c =
    on_true c.have_one_typ.result
    (clash_told c.args.pair.now c.pair.inside.left c.pair.inside.right c.head.result.now c.head-2.result.now (ap (λ (p : Pair). p.left) (sym c.pair.view_is)) (ap (λ (p : Pair). p.right) (sym c.pair.view_is)) c.requires
    c.head.ensures c.head-2.ensures (rw c.if-not-are_rigid_apart.false at c.are_rigid_apart.ensures))
    c.have_one_typ.ensures
