use Rattle.pure_print.proofs.LawsLemmas.{one_typ_text}
use Rattle.pure_print.proofs.laws.one_typ_text.Goals as goal

pub returns : goal.returns
returns c = one_typ_text
