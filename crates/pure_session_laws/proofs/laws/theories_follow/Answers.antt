use Rattle.pure_session_laws.proofs.FollowingLaws.{none-has_ended, parents-have_ended, next-is_given, next-has_ended}
use Rattle.pure_session_laws.proofs.laws.theories_follow.Goals as goal

pub returns-clause-none : goal.returns-clause-none
returns-clause-none c = none-has_ended

pub returns-clause-parents : goal.returns-clause-parents
returns-clause-parents c = parents-have_ended

pub returns-clause-given : goal.returns-clause-given
returns-clause-given c = next-is_given

pub returns-clause-ended : goal.returns-clause-ended
returns-clause-ended c = next-has_ended
