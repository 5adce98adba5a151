use Rattle.pure_read.proofs.PartLemmas.{parts_are_slices}
use Rattle.pure_read.proofs.laws.parts_are_slices.Goals as goal

pub returns : goal.returns
returns c = parts_are_slices
