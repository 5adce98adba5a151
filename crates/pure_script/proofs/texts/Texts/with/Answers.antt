use Rattle.pure_text.proofs.TextSets.{contains-more}
use Rattle.pure_script.proofs.texts.Texts.with.Goals as goal

pub invariant_of-result-2 : goal.invariant_of-result-2
invariant_of-result-2 c = rw c.in_ok-push.ensures.items (contains-more _ _ _ _ _ c.self.invariant c.in_ok-copy.ensures c.in_ok-insert.ensures.updates)
