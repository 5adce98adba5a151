use Rattle.std.proofs.Common.{map}
use Rattle.pure_text.specs.Lists.{IsIn}
use Rattle.pure_text.proofs.ListLaws.{each_read}
use Rattle.pure_promise_fates.specs.Entries as fates
use Rattle.pure_promise.specs.Seen.{reported}
use Rattle.pure_promise.proofs.names_text.push_more_labels.Goals as goal

pub push_label-requires-clause-stands : goal.push_label-requires-clause-stands
push_label-requires-clause-stands c = each_read (λ l. IsIn l (map fates.Entry.label (map reported c.args.entries.now))) c.args.labels.now c.loop-label.label-index c.label-item.result c.loop-label-test.true c.label-item.is c.requires.stand
