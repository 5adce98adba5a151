use Rattle.std.proofs.Common.{sym, subst}
use Rattle.pure_promise_fates.specs.Entries.{AreEntries}
use Rattle.pure_promise.specs.Seen.{seen}
use Rattle.pure_promise.proofs.RowLaws.{reported-plain}
use Rattle.pure_session.specs.Refused.{all_refused}
use Rattle.pure_theory_run.specs.Outline.{outlines}
use Rattle.pure_table.proofs.PrintedLaws.{takes-table}
use Rattle.pure_table.proofs.printing.put_all.Goals as goal

pub returns : goal.returns
returns g c =
    takes-table (record { texts = c.args.lemmas.now.names.now; values = outlines c.args.closed.now; entries = seen c.args.lemmas.now.entries.now; refused = all_refused c.args.refused.now })
    (subst AreEntries (sym (reported-plain c.args.lemmas.now.entries.now)) c.requires.entries)
    (g.T.TakesRows.holds c.args.table.now) (g.T.TakesRows.holds c.fill_all.new.table) (g.T.TakesRows.holds c.put_refused.new.table) c.in_ok-fill_all.ensures c.in_ok-put_refused.ensures
