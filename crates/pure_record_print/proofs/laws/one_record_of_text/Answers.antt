use Rattle.pure_record_print.proofs.RoundTrip.{one-record}
use Rattle.pure_record_print.proofs.laws.one_record_of_text.Goals as goal

pub returns : goal.returns
returns c = one-record
