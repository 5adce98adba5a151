use Rattle.pure_reduction.proofs.NormalLaws.{typed_term_has_beta_normal_form as law}
use Rattle.pure_reduction.proofs.laws.typed_terms_have_normal_forms.Goals as goal

pub returns : goal.returns
returns c = law
