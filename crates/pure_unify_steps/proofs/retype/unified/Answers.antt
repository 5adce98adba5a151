use Rattle.std.proofs.Common.{◌∙◌}
use Rattle.pure_unify_steps.proofs.RetypeLaws.{pair_old}
use Rattle.pure_unify_steps.proofs.retype.unified.Goals as goal

pub unify_from-requires : goal.unify_from-requires
unify_from-requires c =
    pair_old c.args.index c.args.from c.args.left.now c.args.right.now c.deref.result.now (c.deref.ensures.value ∙ c.in-Ok.ensures) (rw c.if-not-is_old.false at c.is_old.ensures) (rw c.if-not-is_old-2.false at c.is_old-2.ensures)
