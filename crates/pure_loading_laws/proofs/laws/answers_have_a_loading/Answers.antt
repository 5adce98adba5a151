use Rattle.pure_loading_laws.proofs.SessionLaws.{loading-there}
use Rattle.pure_loading_laws.proofs.laws.answers_have_a_loading.Goals as goal

pub returns : goal.returns
returns c = loading-there
