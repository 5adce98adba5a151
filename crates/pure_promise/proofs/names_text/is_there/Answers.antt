use Rattle.pure_promise.proofs.LabelLaws.{label_there}
use Rattle.pure_promise.proofs.names_text.is_there.Goals as goal

pub returns-then-place-entries : goal.returns-then-place-entries
returns-then-place-entries c = label_there c.args.entries.now c.args.place c.index-entries-place.result c.args.label c.eq.result c.if-place-entries.true c.index-entries-place.is c.eq.ensures
