use Rattle.pure_lookup.proofs.MeaningLaws.{found_is_declared as declared, protect_is_never_found}
use Rattle.pure_lookup.proofs.laws.found_is_declared.Goals as goal

pub returns-clause-declared : goal.returns-clause-declared
returns-clause-declared c = declared

pub returns-clause-other : goal.returns-clause-other
returns-clause-other c = protect_is_never_found
