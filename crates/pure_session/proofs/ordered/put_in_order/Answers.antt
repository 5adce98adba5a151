use Rattle.std.proofs.lemmas.List.Filters.{dedup_is}
use Rattle.pure_session.proofs.OrderedLemmas.{ordered-ascend, ordered-same}
use Rattle.pure_session.proofs.ordered.put_in_order.Goals as goal

pub returns-clause-ascend : goal.returns-clause-ascend
returns-clause-ascend c = ordered-ascend (λ text. text.now) c.sort_unstable.new.self.items c.dedup.new.self.items c.sort_unstable.ensures.sorted (dedup_is _ _ _ c.dedup.ensures.filtered)

pub returns-clause-same : goal.returns-clause-same
returns-clause-same c = ordered-same (λ text. text.now) c.args.texts.now.items c.sort_unstable.new.self.items c.dedup.new.self.items c.sort_unstable.ensures.permutation (dedup_is _ _ _ c.dedup.ensures.filtered)
