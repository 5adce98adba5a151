use Rattle.pure_unify_nodes.proofs.OwnLaws.{no_arrows}
use Rattle.pure_unify_nodes.proofs.own.is_base.Goals as goal

pub returns-in_default : goal.returns-in_default
returns-in_default c = no_arrows c.args.typ.now c.in_default.ensures
