use Rattle.pure_plays.proofs.SeatsLaws.{begin-alike}
use Rattle.pure_plays.proofs.boards.close.Goals as goal

pub returns-clause-seen : goal.returns-clause-seen
returns-clause-seen g c = begin-alike _ _ c.close.ensures.seats
