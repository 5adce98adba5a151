use Rattle.pure_norm.proofs.BetaLaws.{normal_form-is_normal, normal_form-is_within, one_normal_form as once, normal_form-of_normal}
use Rattle.pure_norm.proofs.laws.one_normal_form.Goals as goal

pub returns-clause-normal : goal.returns-clause-normal
returns-clause-normal c = normal_form-is_normal

pub returns-clause-within : goal.returns-clause-within
returns-clause-within c = normal_form-is_within

pub returns-clause-one : goal.returns-clause-one
returns-clause-one c = once

pub returns-clause-itself : goal.returns-clause-itself
returns-clause-itself c = normal_form-of_normal
