use Rattle.pure_record.proofs.UniqueLemmas.{one_record}
use Rattle.pure_record.proofs.laws.one_record.Goals as goal

pub returns : goal.returns
returns c = one_record
