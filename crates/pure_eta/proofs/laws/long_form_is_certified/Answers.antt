use Rattle.pure_eta.proofs.FormLaws.{long_form_is_certified as law}
use Rattle.pure_eta.proofs.laws.long_form_is_certified.Goals as goal

pub returns : goal.returns
returns c = law
