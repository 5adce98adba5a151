use Rattle.std.proofs.Common.{subst}
use Rattle.pure_promise_fates.specs.Entries.{AreEntries}
use Rattle.pure_promise.proofs.RowLaws.{reported-plain}
use Rattle.pure_table.proofs.printing.put_table.Goals as goal

pub reaches-requires : goal.reaches-requires
reaches-requires g c = subst AreEntries (reported-plain c.args.entries.now) c.requires

pub put_all-requires : goal.put_all-requires
put_all-requires g c = record {
  entries = subst AreEntries (reported-plain c.args.entries.now) c.requires;
  reached = rw c.as_slice.ensures.value c.in_ok-reached.ensures.each;
  count = rw c.as_slice.ensures.value c.in_ok-reached.ensures.count;
}
