use Rattle.pure_declare.proofs.OnceLaws.{declares_once}
use Rattle.pure_declare.proofs.laws.declares_once.Goals as goal

pub returns : goal.returns
returns c = declares_once
