use Rattle.pure_plays.proofs.HandLaws.{out-in_hand, goal-in_hand, still-in_hand, delivered-in_hand}
use Rattle.pure_plays.proofs.hands.deliver.Goals as goal

pub deliver-requires-clause-out : goal.deliver-requires-clause-out
deliver-requires-clause-out g c κs within = out-in_hand _ _ c.requires.hand

pub deliver-requires-clause-may : goal.deliver-requires-clause-may
deliver-requires-clause-may g c κs within = goal-in_hand _ _ c.requires.hand

pub returns-in-Err-clause-hand : goal.returns-in-Err-clause-hand
returns-in-Err-clause-hand g c = still-in_hand _ _ _ c.in-Err.ensures.known _ c.requires.hand c.in-Err.ensures.delivered

pub returns-in-Ok-Kept-clause-hand : goal.returns-in-Ok-Kept-clause-hand
returns-in-Ok-Kept-clause-hand g c = delivered-in_hand _ _ _ c.in-Ok-Kept.ensures.known _ _ _ _ c.requires.hand c.in-Ok-Kept.ensures.delivered

pub returns-in-Ok-Cancelled-clause-hand : goal.returns-in-Ok-Cancelled-clause-hand
returns-in-Ok-Cancelled-clause-hand g c = delivered-in_hand _ _ _ c.in-Ok-Cancelled.ensures.known _ _ _ _ c.requires.hand c.in-Ok-Cancelled.ensures.delivered
