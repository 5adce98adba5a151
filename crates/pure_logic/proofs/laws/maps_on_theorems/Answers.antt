use Rattle.pure_logic.proofs.TheoremMapLaws.{weaker_is_derivable, instance_from_same_hypotheses, raised_is_derivable, instantiated_is_derivable}
use Rattle.pure_logic.proofs.laws.maps_on_theorems.Goals as goal

pub returns-clause-weaker : goal.returns-clause-weaker
returns-clause-weaker c = weaker_is_derivable

pub returns-clause-same_hypotheses : goal.returns-clause-same_hypotheses
returns-clause-same_hypotheses c = instance_from_same_hypotheses

pub returns-clause-raised : goal.returns-clause-raised
returns-clause-raised c = raised_is_derivable

pub returns-clause-instantiated : goal.returns-clause-instantiated
returns-clause-instantiated c = instantiated_is_derivable
