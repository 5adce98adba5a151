use Rattle.pure_elab.proofs.DraftLaws.{draft_is_typed as lemma}
use Rattle.pure_elab.proofs.laws.draft_is_typed.Goals as goal

pub returns : goal.returns
returns c = lemma
