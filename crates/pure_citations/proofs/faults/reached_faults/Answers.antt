use Rattle.std.proofs.Common.{map, length}
use Rattle.pure_promise_fates.proofs.CodeLaws.{seen-length}
use Rattle.pure_table.specs.Promise.Seen.{seen, seen_entry, reported}
use Rattle.pure_table.proofs.Promise.RowLaws.{reported-plain}
use Rattle.pure_citations.proofs.FaultCode.{faults-by}
use Rattle.pure_citations.proofs.faults.reached_faults.Goals as goal

pub returns : goal.returns
returns c =
    faults-by (seen c.args.entries.now) c.args.name (map reported c.args.entries.now) (length c.args.entries.now) c.put_lemmas.new.row.items c.put_reached.new.row.items c.put_faults.new.faults.items
    (seen-length seen_entry c.args.entries.now) (reported-plain c.args.entries.now) (record {
      first_is = rw (← c.new-row.ensures.items) c.in_ok-put_lemmas.ensures;
      row_is = c.in_ok-put_reached.ensures;
      faults_are = rw (← c.new-faults.ensures.items, ← c.deref.ensures.value) c.in_ok-put_faults.ensures;
    })
