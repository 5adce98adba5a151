use Rattle.pure_term_laws.proofs.BetaLaws.{no_step-exactly_where_normal}
use Rattle.pure_term_laws.proofs.laws.no_step_exactly_where_normal.Goals as goal

pub returns : goal.returns
returns c = no_step-exactly_where_normal
