use Rattle.pure_logic.proofs.DerivableLaws.{axiom_is_derivable, promise_is_derivable}
use Rattle.pure_logic.proofs.laws.declared_is_derivable.Goals as goal

pub returns-clause-axiom_alone : goal.returns-clause-axiom_alone
returns-clause-axiom_alone c = axiom_is_derivable

pub returns-clause-promise : goal.returns-clause-promise
returns-clause-promise c = promise_is_derivable
