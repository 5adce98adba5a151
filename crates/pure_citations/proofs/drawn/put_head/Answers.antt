use Rattle.pure_text.proofs.Joins.{joined_2}
use Rattle.pure_citations.proofs.drawn.put_head.Goals as goal

pub returns : goal.returns
returns c = joined_2 _ _ _ _ _ c.in_ok-put_title.ensures c.in_ok-put_label.ensures
