use Rattle.std.proofs.Common.{subst, sym, IfOk}
use Rattle.pure_graph.specs.SessionNames.{AreNames}
use Rattle.pure_session.specs.Waiting.{seen_loaded, all_loaded}
use Rattle.pure_session.proofs.NamesLemmas.{names-ascend, parts-mapped}
use Rattle.pure_session.proofs.names.+halves.Goals as goal

pub united-requires-clause-left : goal.united-requires-clause-left
united-requires-clause-left g t c = (rw c.in-Ok.is at c.join-left.ensures.first).ascend

pub united-requires-clause-right : goal.united-requires-clause-right
united-requires-clause-right g t c = names-ascend _ (all_loaded c.split_at.result.1.now) c.join-left.ensures.second

pub returns-in-Ok : goal.returns-in-Ok
returns-in-Ok g t c =
    subst (λ theories. IfOk c.united.result (AreNames theories)) (sym (parts-mapped seen_loaded c.args.theories.now c.split_at.result.0.now c.split_at.result.1.now c.split_at.ensures.by_index.0))
    (c.united.ensures (all_loaded c.split_at.result.0.now) (all_loaded c.split_at.result.1.now) (rw c.in-Ok.is at c.join-left.ensures.first) c.join-left.ensures.second)
