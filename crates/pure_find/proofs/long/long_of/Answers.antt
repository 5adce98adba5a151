use Rattle.pure_find.proofs.LongPropositions.{lacks-long, long-proposition}
use Rattle.pure_find.proofs.long.long_of.Goals as goal

pub long_form-requires-clause-typed : goal.long_form-requires-clause-typed
long_form-requires-clause-typed c = (_, c.requires.typed)

pub long_form-requires-clause-normal : goal.long_form-requires-clause-normal
long_form-requires-clause-normal c = c.requires.normal

pub returns-in-Ok-clause-long : goal.returns-in-Ok-clause-long
returns-in-Ok-clause-long c = long-proposition c.args.prop.now c.in-Ok.long c.requires c.in-Ok.ensures.0

pub returns-in-Err-Big-clause-found : goal.returns-in-Err-Big-clause-found
returns-in-Err-Big-clause-found c = let h = rw c.in-Err-Big.field-0-is at c.in-Err-Big.ensures in lacks-long c.args.prop.now h.0 h.1 h.2
