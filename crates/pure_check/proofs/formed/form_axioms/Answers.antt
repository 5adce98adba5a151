use Rattle.std.proofs.Common.{subst}
use Rattle.pure_promise_fates.specs.Entries.{AreEntries}
use Rattle.pure_check_work.proofs.Promise.RowLaws.{reported-plain}
use Rattle.pure_citations.proofs.ListedLaws.{if-weaker}
use Rattle.pure_check.proofs.FormedLemmas.{as-long, rows-formed}
use Rattle.pure_check.proofs.formed.form_axioms.Goals as goal

pub rows_of-requires : goal.rows_of-requires
rows_of-requires c = record { entries = c.requires.entries }

pub axioms_of-requires-clause-entries : goal.axioms_of-requires-clause-entries
axioms_of-requires-clause-entries c = rw c.as_slice.ensures.value (subst AreEntries (reported-plain _) c.requires.entries)

pub axioms_of-requires-clause-session : goal.axioms_of-requires-clause-session
axioms_of-requires-clause-session c = rw c.as_slice-2.ensures.value c.requires.premises.session

pub axioms_of-requires-clause-beside : goal.axioms_of-requires-clause-beside
axioms_of-requires-clause-beside c = rw (c.as_slice.ensures.value, c.as_slice-2.ensures.value) c.requires.premises.beside

pub axioms_of-requires-clause-long : goal.axioms_of-requires-clause-long
axioms_of-requires-clause-long c = rw (c.as_slice.ensures.value, c.as_slice-2.ensures.value) (as-long _ _ _ _ c.requires.premises.beside)

pub returns : goal.returns
returns c = if-weaker c.axioms_of.result _ _ (λ f says S cancelled parts. rows-formed S cancelled _ _ _ _ ((rw c.names.ensures at c.in_ok-rows.ensures) S cancelled parts) _ c.args.files _ _ says)
    (rw (c.as_slice.ensures.value, c.as_slice-2.ensures.value, c.as_slice-3.ensures.value) at c.axioms_of.ensures)
