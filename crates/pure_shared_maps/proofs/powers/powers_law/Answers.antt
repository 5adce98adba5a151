use Rattle.pure_shared_maps.proofs.PowerLaws.{powers_are}
use Rattle.pure_shared_maps.proofs.powers.powers_law.Goals as goal

pub returns : goal.returns
returns c = powers_are
