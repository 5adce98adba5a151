use Rattle.pure_promise_fates.specs.Seen.{seen_fate}
use Rattle.pure_promise_fates.proofs.CodeLaws.{at-seen}
use Rattle.pure_promise.specs.Seen.{reported}
use Rattle.pure_promise.proofs.RowLaws.{put_there}
use Rattle.pure_promise.proofs.lemma_rows.put_at.Goals as goal

pub put_row_of-requires-clause-fate : goal.put_row_of-requires-clause-fate
put_row_of-requires-clause-fate c = c.in_ok-fate.ensures (reported c.index-entries-place.result) (at-seen reported c.args.entries.now c.args.place c.index-entries-place.result c.requires.within c.index-entries-place.is)

pub returns : goal.returns
returns c =
    put_there c.args.names.now c.args.entries.now c.args.place c.index-entries-place.result (seen_fate c.in_ok-fate.fate) _ c.requires.within c.index-entries-place.is
    (c.in_ok-fate.ensures (reported c.index-entries-place.result) (at-seen reported c.args.entries.now c.args.place c.index-entries-place.result c.requires.within c.index-entries-place.is))
    c.in_ok-put_row_of.ensures
