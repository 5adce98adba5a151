use Rattle.pure_plays.proofs.HandLaws.{theory-in_hand, still-in_hand, forked-in_hand}
use Rattle.pure_plays.proofs.hands.fork.Goals as goal

pub fork-requires-clause-theory : goal.fork-requires-clause-theory
fork-requires-clause-theory g c κs within = theory-in_hand _ _ c.requires.hand

pub returns-in-Err-clause-hand : goal.returns-in-Err-clause-hand
returns-in-Err-clause-hand g c = still-in_hand _ _ _ c.in-Err.ensures.known _ c.requires.hand c.in-Err.ensures.forked

pub returns-in-Ok-clause-hand : goal.returns-in-Ok-clause-hand
returns-in-Ok-clause-hand g c = forked-in_hand _ _ _ c.in-Ok.ensures.known _ _ _ _ c.requires.hand c.in-Ok.ensures.forked
