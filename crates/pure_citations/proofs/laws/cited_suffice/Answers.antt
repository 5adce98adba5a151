use Rattle.pure_citations.proofs.CitedLaws.{cited_suffice as cited, held_suffice as held}
use Rattle.pure_citations.proofs.laws.cited_suffice.Goals as goal

pub returns-clause-cited : goal.returns-clause-cited
returns-clause-cited c = cited

pub returns-clause-held : goal.returns-clause-held
returns-clause-held c = held
