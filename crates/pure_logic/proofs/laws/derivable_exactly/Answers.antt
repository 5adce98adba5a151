use Rattle.pure_logic.proofs.DerivableLaws.{derivable_alone_exactly, derivable_exactly as exactly}
use Rattle.pure_logic.proofs.laws.derivable_exactly.Goals as goal

pub returns-clause-alone : goal.returns-clause-alone
returns-clause-alone c = derivable_alone_exactly

pub returns-clause-theorem : goal.returns-clause-theorem
returns-clause-theorem c = exactly
