use Rattle.pure_unify_nodes.proofs.OwnLaws.{own_of}
use Rattle.pure_unify_nodes.proofs.own.is_own.Goals as goal

pub returns : goal.returns
returns c = own_of c.args.t.now c.requires (rw c.if-not-is_long_under.false at c.is_long_under.ensures) (c.is_within.ensures.0 c.if-not-is_within.false)
