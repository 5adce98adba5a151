use Rattle.std.proofs.Common.{subst}
use Rattle.pure_promise_fates.specs.Entries.{AreEntries}
use Rattle.pure_promise.proofs.RowLaws.{reported-plain, next_row, all_rows}
use Rattle.pure_promise.proofs.lemma_rows.rows.Goals as goal

pub reaches-requires : goal.reaches-requires
reaches-requires c = subst AreEntries (reported-plain c.args.entries.now) c.requires

pub row_at-requires-clause-entries : goal.row_at-requires-clause-entries
row_at-requires-clause-entries c = subst AreEntries (reported-plain c.args.entries.now) c.requires

pub loop-place-preserved : goal.loop-place-preserved
loop-place-preserved c = next_row c.args.names.now c.args.entries.now c.loop-place.place c.loop-place.rows.items c.push.new.self.items c.in_ok-row.row c.loop-place-test.true c.loop-place.invariant c.in_ok-row.ensures c.in_ok-push.ensures.items

pub returns : goal.returns
returns c = all_rows c.args.names.now c.args.entries.now c.loop-place.place c.loop-place.rows.items c.loop-place-test.false c.loop-place.invariant
