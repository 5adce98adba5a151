use Rattle.pure_session_laws.proofs.WellLaws.{loaded-well}
use Rattle.pure_session_laws.proofs.laws.loaded_well.Goals as goal

pub returns : goal.returns
returns c = loaded-well
