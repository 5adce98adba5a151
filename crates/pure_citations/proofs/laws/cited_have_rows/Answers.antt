use Rattle.pure_citations.proofs.RowedLaws.{cited_have_rows as law}
use Rattle.pure_citations.proofs.laws.cited_have_rows.Goals as goal

pub returns : goal.returns
returns c = law
