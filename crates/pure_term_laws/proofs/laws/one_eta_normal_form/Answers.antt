use Rattle.pure_term_laws.proofs.EtaNormalLaws.{one_eta_normal_form as once}
use Rattle.pure_term_laws.proofs.laws.one_eta_normal_form.Goals as goal

pub returns : goal.returns
returns c = once
