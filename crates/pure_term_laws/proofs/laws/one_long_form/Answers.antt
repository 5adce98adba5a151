use Rattle.pure_term_laws.proofs.EtaLaws.{one_long_form as once}
use Rattle.pure_term_laws.proofs.laws.one_long_form.Goals as goal

pub returns : goal.returns
returns c = once
