use Rattle.pure_session_laws.proofs.EndLaws.{theory-ends, nothing-has_ended}
use Rattle.pure_session_laws.proofs.owners.theory_ends.Goals as goal

pub returns-clause-ends : goal.returns-clause-ends
returns-clause-ends c = theory-ends

pub returns-clause-nothing : goal.returns-clause-nothing
returns-clause-nothing c = nothing-has_ended
