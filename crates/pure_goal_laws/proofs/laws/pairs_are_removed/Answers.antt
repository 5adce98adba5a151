use Rattle.pure_goal_laws.proofs.PairLaws.{dropped_is_derivable, smashed_is_derivable}
use Rattle.pure_goal_laws.proofs.laws.pairs_are_removed.Goals as goal

pub returns-clause-dropped : goal.returns-clause-dropped
returns-clause-dropped c = dropped_is_derivable

pub returns-clause-smashed : goal.returns-clause-smashed
returns-clause-smashed c = smashed_is_derivable
