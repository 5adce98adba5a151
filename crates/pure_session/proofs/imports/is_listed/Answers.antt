use Rattle.pure_session.proofs.ImportLemmas.{listed-place}
use Rattle.pure_session.proofs.imports.is_listed.Goals as goal

pub returns : goal.returns
returns c = rw c.place_of.ensures (listed-place c.args.listed.now c.args.theory.now)
