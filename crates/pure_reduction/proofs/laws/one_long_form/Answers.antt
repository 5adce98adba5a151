use Rattle.pure_reduction.proofs.LongLaws.{one_long_form_of_term, typed_term_has_long_form, long_form_keeps_type, long_form_of_normal, long_form_of_redex_example}
use Rattle.pure_reduction.proofs.laws.one_long_form.Goals as goal

pub returns-clause-one : goal.returns-clause-one
returns-clause-one c = one_long_form_of_term

pub returns-clause-some : goal.returns-clause-some
returns-clause-some c = typed_term_has_long_form

pub returns-clause-typ : goal.returns-clause-typ
returns-clause-typ c = long_form_keeps_type

pub returns-clause-normal : goal.returns-clause-normal
returns-clause-normal c = long_form_of_normal

pub returns-clause-example : goal.returns-clause-example
returns-clause-example c = long_form_of_redex_example
