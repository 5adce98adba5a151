use Rattle.pure_record.proofs.NameLemmas.{names-united}
use Rattle.pure_record.proofs.names.+texts_of.Goals as goal

pub returns : goal.returns
returns t c =
    names-united c.args.source.now c.args.tokens.now c.split_at.result.0.now c.split_at.result.1.now c.in_ok-all.all c.in_ok-left.left c.in_ok-right.right
    c.split_at.ensures.by_index.0 c.in_ok-left.ensures c.in_ok-right.ensures c.in_ok-all.ensures.ascend c.in_ok-all.ensures.texts
