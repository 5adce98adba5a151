use Rattle.pure_citations.proofs.WithoutLaws.{stays_exactly as law}
use Rattle.pure_citations.proofs.laws.stays_exactly.Goals as goal

pub returns : goal.returns
returns c = law
