use Rattle.pure_term_laws.proofs.BetaLaws.{one_beta_sequence as once, one_beta_sequence_to_normal}
use Rattle.pure_term_laws.proofs.laws.one_beta_sequence.Goals as goal

pub returns-clause-as_long : goal.returns-clause-as_long
returns-clause-as_long c = once

pub returns-clause-to_normal : goal.returns-clause-to_normal
returns-clause-to_normal c = one_beta_sequence_to_normal
