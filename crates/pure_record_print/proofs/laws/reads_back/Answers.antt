use Rattle.pure_record_print.proofs.RoundTrip.{read-back}
use Rattle.pure_record_print.proofs.laws.reads_back.Goals as goal

pub returns : goal.returns
returns c = read-back
