use Rattle.pure_text.proofs.Joins.{joined_3}
use Rattle.pure_citations.proofs.drawn.put_cluster.Goals as goal

pub returns : goal.returns
returns c = joined_3 _ _ _ _ _ _ _ c.in_ok-put_head.ensures (rw (c.as_slice.ensures.value, c.in_ok-beginning.ensures) at c.in_ok-put_all_in.ensures) c.in_ok-put_closing.ensures
