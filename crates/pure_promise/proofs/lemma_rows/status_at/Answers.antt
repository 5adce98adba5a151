use Rattle.pure_promise_fates.specs.Seen.{seen_fate}
use Rattle.pure_promise.proofs.RowLaws.{status_there}
use Rattle.pure_promise.proofs.lemma_rows.status_at.Goals as goal

pub returns : goal.returns
returns c = status_there c.args._names.now c.args.entries.now c.args.place (seen_fate c.in_ok-fate.fate) c.status_of-status.result c.in_ok-fate.ensures c.status_of-status.ensures
