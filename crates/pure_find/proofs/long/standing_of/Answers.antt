use Rattle.pure_find.proofs.LongPropositions.{statement-maybe}
use Rattle.pure_find.proofs.long.standing_of.Goals as goal

pub returns-in-None : goal.returns-in-None
returns-in-None c C found = statement-maybe c.args.prop.now c.args.long.now c.in-None.is C found
