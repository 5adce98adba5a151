use Rattle.pure_method.proofs.SoundLaws.{proved-derivable}
use Rattle.pure_method.proofs.FaultLaws.{rests-promised}
use Rattle.pure_method.proofs.laws.proved_is_derivable.Goals as goal

pub returns-clause-derivable : goal.returns-clause-derivable
returns-clause-derivable c texts Q k statement is closed script labels proof = proved-derivable texts Q k statement closed labels script proof is

pub returns-clause-promises : goal.returns-clause-promises
returns-clause-promises c = rests-promised
