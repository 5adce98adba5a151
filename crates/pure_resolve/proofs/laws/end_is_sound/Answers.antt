use Rattle.pure_resolve.proofs.EndLaws.{end_is_sound}
use Rattle.pure_resolve.proofs.laws.end_is_sound.Goals as goal

pub returns : goal.returns
returns c = end_is_sound
