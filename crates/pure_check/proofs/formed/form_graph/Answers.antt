use Rattle.std.proofs.Common.{subst}
use Rattle.pure_promise_fates.specs.Entries.{AreEntries}
use Rattle.pure_check_work.proofs.Promise.RowLaws.{reported-plain}
use Rattle.pure_citations.proofs.ListedLaws.{if-weaker}
use Rattle.pure_check.proofs.FormedLemmas.{as-long, rows-formed}
use Rattle.pure_check.proofs.formed.form_graph.Goals as goal

pub rows_of-requires : goal.rows_of-requires
rows_of-requires c = record { entries = c.requires.entries }

pub graph_of-requires-clause-entries : goal.graph_of-requires-clause-entries
graph_of-requires-clause-entries c = rw c.as_slice.ensures.value (subst AreEntries (reported-plain _) c.requires.entries)

pub graph_of-requires-clause-session : goal.graph_of-requires-clause-session
graph_of-requires-clause-session c = rw c.as_slice-2.ensures.value c.requires.premises.session

pub graph_of-requires-clause-beside : goal.graph_of-requires-clause-beside
graph_of-requires-clause-beside c = rw (c.as_slice.ensures.value, c.as_slice-2.ensures.value) c.requires.premises.beside

pub graph_of-requires-clause-long : goal.graph_of-requires-clause-long
graph_of-requires-clause-long c = rw (c.as_slice.ensures.value, c.as_slice-2.ensures.value) (as-long _ _ _ _ c.requires.premises.beside)

pub returns : goal.returns
returns c = if-weaker c.graph_of.result _ _ (λ f says S cancelled parts. rows-formed S cancelled _ _ _ _ ((rw c.names.ensures at c.in_ok-rows.ensures) S cancelled parts) _ c.args.files _ _ says)
    (rw (c.as_slice.ensures.value, c.as_slice-2.ensures.value, c.as_slice-3.ensures.value) at c.graph_of.ensures)

pub graph_of-requires-clause-rests : goal.graph_of-requires-clause-rests
graph_of-requires-clause-rests c = rw (c.as_slice.ensures.value, c.as_slice-2.ensures.value) c.requires.premises.rests
