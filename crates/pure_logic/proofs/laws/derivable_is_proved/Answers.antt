use Rattle.pure_logic.proofs.ProvesLaws.{derivable_is_proves, pairs_are_equations}
use Rattle.pure_logic.proofs.laws.derivable_is_proved.Goals as goal

pub returns-clause-without_pairs : goal.returns-clause-without_pairs
returns-clause-without_pairs c = derivable_is_proves

pub returns-clause-pairs : goal.returns-clause-pairs
returns-clause-pairs c = pairs_are_equations
