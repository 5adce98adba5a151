use Rattle.pure_words.proofs.Readings.{one_reading}
use Rattle.pure_words.proofs.laws.one_reading.Goals as goal

pub returns : goal.returns
returns c = one_reading
