use Rattle.pure_read.proofs.PartLemmas.{parts_are_slices}
use Rattle.pure_statements.proofs.quoted.tokens_of.Goals as goal

pub returns-in-Ok-clause-slices : goal.returns-in-Ok-clause-slices
returns-in-Ok-clause-slices c = parts_are_slices c.args.source.now c.args.at.from c.args.at.to c.in-Ok.found.items c.requires.within c.in-Ok.ensures.slices
