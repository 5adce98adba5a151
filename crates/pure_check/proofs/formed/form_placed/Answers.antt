use Rattle.pure_citations.proofs.ListedLaws.{if-weaker}
use Rattle.pure_check.proofs.FormedLemmas.{rows-formed}
use Rattle.pure_check.proofs.formed.form_placed.Goals as goal

pub returns : goal.returns
returns c = if-weaker c.placed.result _ _ (λ f says S cancelled parts. rows-formed S cancelled _ _ _ _ (c.in_ok-rows.ensures S cancelled parts) _ c.args.files _ _ says) (rw c.as_slice.ensures.value at c.placed.ensures)
