use Rattle.pure_plays.proofs.HandLaws.{out-in_hand, still-in_hand}
use Rattle.pure_plays.proofs.hands.poll.Goals as goal

pub poll-requires-clause-taken : goal.poll-requires-clause-taken
poll-requires-clause-taken g c κs within = (out-in_hand _ _ c.requires.hand).taken

pub returns-in-Go-clause-hand : goal.returns-in-Go-clause-hand
returns-in-Go-clause-hand g c = still-in_hand _ _ _ c.poll.ensures.known _ c.requires.hand c.poll.ensures.polled.0

pub returns-in-Cancelled-clause-hand : goal.returns-in-Cancelled-clause-hand
returns-in-Cancelled-clause-hand g c = still-in_hand _ _ _ c.poll.ensures.known _ c.requires.hand c.poll.ensures.polled.0

pub returns-in-Stopped-clause-hand : goal.returns-in-Stopped-clause-hand
returns-in-Stopped-clause-hand g c = still-in_hand _ _ _ c.poll.ensures.known _ c.requires.hand c.poll.ensures.polled.0
