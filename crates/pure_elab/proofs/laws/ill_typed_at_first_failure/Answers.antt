use Rattle.pure_elab.proofs.GeneralLaws.{ill_typed_at_first_failure as lemma}
use Rattle.pure_elab.proofs.laws.ill_typed_at_first_failure.Goals as goal

pub returns : goal.returns
returns c = lemma
