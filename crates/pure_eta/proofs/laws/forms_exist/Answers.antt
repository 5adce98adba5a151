use Rattle.pure_eta.proofs.FormLaws.{each_term_has_eta_normal_form, each_typed_normal_term_has_long_form}
use Rattle.pure_eta.proofs.laws.forms_exist.Goals as goal

pub returns-clause-eta : goal.returns-clause-eta
returns-clause-eta c = each_term_has_eta_normal_form

pub returns-clause-long : goal.returns-clause-long
returns-clause-long c = each_typed_normal_term_has_long_form
