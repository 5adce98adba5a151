use Rattle.pure_unify_nodes.proofs.OwnLaws.{on_true, own_of}
use Rattle.pure_unify_nodes.proofs.own.is_long.Goals as goal

pub returns : goal.returns
returns c = on_true c.is_long_under.result (λ h. own_of c.args.t.now c.requires.typed h c.requires.within) c.is_long_under.ensures
