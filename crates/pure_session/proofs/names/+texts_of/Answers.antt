use Rattle.pure_session.specs.Waiting.{seen_loaded, all_loaded}
use Rattle.pure_session.proofs.NamesLemmas.{names-united, parts-mapped}
use Rattle.pure_session.proofs.names.+texts_of.Goals as goal

pub returns : goal.returns
returns t c =
    names-united (all_loaded c.args.theories.now) (all_loaded c.split_at.result.0.now) (all_loaded c.split_at.result.1.now) c.in_ok-all.all c.in_ok-left.left c.in_ok-right.right
    (parts-mapped seen_loaded c.args.theories.now c.split_at.result.0.now c.split_at.result.1.now c.split_at.ensures.by_index.0) c.in_ok-left.ensures c.in_ok-right.ensures c.in_ok-all.ensures.ascend c.in_ok-all.ensures.texts
