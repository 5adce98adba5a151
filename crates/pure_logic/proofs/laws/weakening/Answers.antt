use Rattle.pure_logic.proofs.WeakeningLaws.{weakening_of_trees, weakening_of_derivable}
use Rattle.pure_logic.proofs.laws.weakening.Goals as goal

pub returns-clause-trees : goal.returns-clause-trees
returns-clause-trees c = weakening_of_trees

pub returns-clause-derivable : goal.returns-clause-derivable
returns-clause-derivable c = weakening_of_derivable
