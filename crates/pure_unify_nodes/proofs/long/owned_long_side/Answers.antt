use Rattle.std.proofs.Common.{refl}
use Rattle.pure_unify_nodes.proofs.LongLemmas.{own_answer}
use Rattle.pure_unify_nodes.proofs.long.owned_long_side.Goals as goal

pub returns-then-is_long : goal.returns-then-is_long
returns-then-is_long c = own_answer c.args.t c.args.t refl (rw c.if-is_long.true at c.is_long.ensures)
