use Rattle.pure_plays.proofs.HandLaws.{still-in_hand, theory-taken, proof-taken, idle-taken}
use Rattle.pure_plays.proofs.hands.take.Goals as goal

pub returns-in-Err-clause-hand : goal.returns-in-Err-clause-hand
returns-in-Err-clause-hand g c = still-in_hand _ _ _ c.in-Err.ensures.known _ c.requires.hand c.in-Err.ensures.taken

pub returns-in-Ok-Theory-clause-hand : goal.returns-in-Ok-Theory-clause-hand
returns-in-Ok-Theory-clause-hand g c = theory-taken _ _ _ c.in-Ok-Theory.ensures.known c.in-Ok-Theory.index c.in-Ok-Theory.parents c.requires.hand (rw c.in-Ok-Theory.field-0-is at c.in-Ok-Theory.ensures.taken)

pub returns-in-Ok-Proof-clause-hand : goal.returns-in-Ok-Proof-clause-hand
returns-in-Ok-Proof-clause-hand g c = proof-taken _ _ _ c.in-Ok-Proof.ensures.known c.in-Ok-Proof.number c.in-Ok-Proof.goal c.requires.hand (rw c.in-Ok-Proof.field-0-is at c.in-Ok-Proof.ensures.taken)

pub returns-in-Ok-Idle-clause-hand : goal.returns-in-Ok-Idle-clause-hand
returns-in-Ok-Idle-clause-hand g c = idle-taken _ _ _ c.in-Ok-Idle.ensures.known c.requires.hand (rw c.in-Ok-Idle.field-0-is at c.in-Ok-Idle.ensures.taken)
