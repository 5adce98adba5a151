use Rattle.pure_goal_steps.proofs.SoundLaws.{becomes_sound, begins_sound, preferred_is_sound, deferred_is_sound, converted_is_sound}
use Rattle.pure_goal_steps.proofs.laws.steps_are_sound.Goals as goal

pub returns-clause-becomes : goal.returns-clause-becomes
returns-clause-becomes c = becomes_sound

pub returns-clause-begins : goal.returns-clause-begins
returns-clause-begins c = begins_sound

pub returns-clause-preferred : goal.returns-clause-preferred
returns-clause-preferred c = preferred_is_sound

pub returns-clause-deferred : goal.returns-clause-deferred
returns-clause-deferred c = deferred_is_sound

pub returns-clause-converted : goal.returns-clause-converted
returns-clause-converted c = converted_is_sound
