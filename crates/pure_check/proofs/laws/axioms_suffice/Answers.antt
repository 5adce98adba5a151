use Rattle.pure_check.proofs.AxiomsLaws.{axioms_suffice as law}
use Rattle.pure_check.proofs.laws.axioms_suffice.Goals as goal

pub returns : goal.returns
returns c = law c.listed_suffice.ensures.suffice
