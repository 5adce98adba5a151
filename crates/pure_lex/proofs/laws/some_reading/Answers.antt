use Rattle.pure_lex.proofs.Existence.{some_reading}
use Rattle.pure_lex.proofs.laws.some_reading.Goals as goal

pub returns : goal.returns
returns c = some_reading
