use Rattle.pure_promise.proofs.LabelLaws.{no_items}
use Rattle.pure_promise.proofs.promise.is_without_pairs.Goals as goal

pub returns : goal.returns
returns c = rw (← c.theorem.view_is, ← c.as_slice.ensures.value) (no_items c.as_slice.result.now c.is_empty.result c.is_empty.ensures)
