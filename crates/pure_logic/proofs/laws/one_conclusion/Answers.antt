use Rattle.pure_logic.proofs.ConclusionLaws.{one_conclusion as once, one_under_pairs}
use Rattle.pure_logic.proofs.laws.one_conclusion.Goals as goal

pub returns-clause-tree : goal.returns-clause-tree
returns-clause-tree c = once

pub returns-clause-pairs : goal.returns-clause-pairs
returns-clause-pairs c = one_under_pairs
