use Rattle.std.proofs.Common.{arith}
use Rattle.pure_tunify.proofs.IndexLaws.{above_pairs_old}
use Rattle.pure_sorts_rows.proofs.asked.unifier_from.Goals as goal

pub unify_from-requires : goal.unify_from-requires
unify_from-requires c = above_pairs_old c.index_above_each-index.result c.args.from c.args.pairs.now (omega arith)
