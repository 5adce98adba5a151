use Rattle.pure_promise.proofs.FateLaws.{joined_is_proved}
use Rattle.pure_promise.proofs.laws.joined_is_proved.Goals as goal

pub returns : goal.returns
returns c = joined_is_proved
