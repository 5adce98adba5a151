use Rattle.pure_term_laws.proofs.BindLaws.{not_in-bind, bind-other}
use Rattle.pure_term_laws.proofs.laws.abstraction_and_occurrence.Goals as goal

pub returns-clause-none : goal.returns-clause-none
returns-clause-none c = not_in-bind

pub returns-clause-lifting : goal.returns-clause-lifting
returns-clause-lifting c = bind-other
