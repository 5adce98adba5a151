use Rattle.pure_text.proofs.Joins.{joined_3}
use Rattle.pure_citations.proofs.drawn.put_title.Goals as goal

pub returns : goal.returns
returns c = joined_3 _ _ _ _ _ _ _ c.in_ok-put_cluster_word.ensures c.in_ok-extend_from_slice.ensures.items c.in_ok-put_label_word.ensures
