use Rattle.pure_logic.proofs.PromiseLaws.{cut, cut_by_proofs, cut_of_promises, settled_is_derivable}
use Rattle.pure_logic.proofs.laws.promises_are_cut.Goals as goal

pub returns-clause-cut : goal.returns-clause-cut
returns-clause-cut c = cut_of_promises

pub returns-clause-settled : goal.returns-clause-settled
returns-clause-settled c = settled_is_derivable

pub returns-clause-by_proofs : goal.returns-clause-by_proofs
returns-clause-by_proofs c = cut_by_proofs

pub returns-clause-trees : goal.returns-clause-trees
returns-clause-trees c = cut
