use Rattle.pure_print.proofs.LawsLemmas.{one_text}
use Rattle.pure_print.proofs.laws.one_text.Goals as goal

pub returns : goal.returns
returns c = one_text
