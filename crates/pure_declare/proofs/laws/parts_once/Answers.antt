use Rattle.pure_declare.proofs.PartOnceLaws.{parts_once}
use Rattle.pure_declare.proofs.laws.parts_once.Goals as goal

pub returns : goal.returns
returns c = parts_once
