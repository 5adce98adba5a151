use Rattle.pure_promise_fates.specs.Seen.{seen_fate}
use Rattle.pure_promise_fates.proofs.CodeLaws.{at-seen}
use Rattle.pure_promise.specs.Seen.{reported}
use Rattle.pure_promise.proofs.RowLaws.{row_there}
use Rattle.pure_promise.proofs.lemma_rows.row_at.Goals as goal

pub row_of-requires-clause-fate : goal.row_of-requires-clause-fate
row_of-requires-clause-fate c = c.in_ok-fate.ensures (reported c.index-entries-place.result) (at-seen reported c.args.entries.now c.args.place c.index-entries-place.result c.requires.within c.index-entries-place.is)

pub returns : goal.returns
returns c = row_there c.args.names.now c.args.entries.now c.args.place c.index-entries-place.result (seen_fate c.in_ok-fate.fate) c.in_ok-row.row c.requires.within c.index-entries-place.is
    (c.in_ok-fate.ensures (reported c.index-entries-place.result) (at-seen reported c.args.entries.now c.args.place c.index-entries-place.result c.requires.within c.index-entries-place.is))
    c.in_ok-row.ensures
