use Rattle.pure_logic.proofs.FulfilmentLaws.{fulfilled_is_derivable, all_fulfilled_is_derivable, joined_are_derivable}
use Rattle.pure_logic.proofs.JoinedLaws.{joined_exactly}
use Rattle.pure_logic.proofs.laws.promises_are_fulfilled.Goals as goal

pub returns-clause-left : goal.returns-clause-left
returns-clause-left c = fulfilled_is_derivable

pub returns-clause-all : goal.returns-clause-all
returns-clause-all c = all_fulfilled_is_derivable

pub returns-clause-joined : goal.returns-clause-joined
returns-clause-joined c = joined_are_derivable

pub returns-clause-exactly : goal.returns-clause-exactly
returns-clause-exactly c = joined_exactly
