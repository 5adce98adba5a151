use Rattle.pure_reduction.proofs.LongLaws.{long_form_of_beta_reduct, long_form_of_eta_reduct}
use Rattle.pure_reduction.proofs.laws.long_forms_of_reducts.Goals as goal

pub returns-clause-beta : goal.returns-clause-beta
returns-clause-beta c = long_form_of_beta_reduct

pub returns-clause-eta : goal.returns-clause-eta
returns-clause-eta c = long_form_of_eta_reduct
