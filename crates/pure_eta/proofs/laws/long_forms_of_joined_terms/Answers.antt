use Rattle.pure_eta.proofs.FormLaws.{long_form_of_long_form, long_form_of_reduct, long_forms_of_joined, eta_normal_form_of_long_form}
use Rattle.pure_eta.proofs.laws.long_forms_of_joined_terms.Goals as goal

pub returns-clause-itself : goal.returns-clause-itself
returns-clause-itself c = long_form_of_long_form

pub returns-clause-reduct : goal.returns-clause-reduct
returns-clause-reduct c = long_form_of_reduct

pub returns-clause-joined : goal.returns-clause-joined
returns-clause-joined c = long_forms_of_joined

pub returns-clause-eta : goal.returns-clause-eta
returns-clause-eta c = eta_normal_form_of_long_form
