use Rattle.pure_lookup.proofs.MeaningLaws.{local_is_never_meant as unmeant}
use Rattle.pure_lookup.proofs.laws.local_is_never_meant.Goals as goal

pub returns : goal.returns
returns c = unmeant
