use Rattle.pure_promise_fates.proofs.CodeLaws.{at-seen}
use Rattle.pure_table.specs.Promise.Entries.{plain}
use Rattle.pure_table.specs.Promise.Seen.{seen, seen_entry}
use Rattle.pure_table.proofs.Promise.RowLaws.{reported-plain}
use Rattle.pure_citations.specs.Cited.{forks}
use Rattle.pure_citations.proofs.CitedCode.{session-at}
use Rattle.pure_citations.proofs.EdgeCode.{edge-names, seen-reported, rests-there}
use Rattle.pure_citations.proofs.edges.names_of.Goals as goal

pub put_named-requires : goal.put_named-requires
put_named-requires c = rw c.deref.ensures (session-at (λ d. d.value) c.args.duties.now c.args.place c.index-duties-place.result c.requires.duty c.index-duties-place.is c.args.names.now c.requires.session)

pub put_names_of-requires-clause-stand : goal.put_names_of-requires-clause-stand
put_names_of-requires-clause-stand c = rests-there c.args.entries.now c.requires.entries c.args.place c.args.rests.now c.requires.entry c.requires.shown

pub returns : goal.returns
returns c e at n =
    edge-names c.args.names.now (forks c.args.duties.now) (seen c.args.entries.now) (rw (reported-plain c.args.entries.now) c.requires.entries) c.requires.beside c.requires.rests c.args.place e at
    c.index-duties-place.result.value (at-seen (λ d. d.value) c.args.duties.now c.args.place c.index-duties-place.result c.requires.duty c.index-duties-place.is)
    c.args.rests.now (c.requires.shown (plain e) (seen-reported c.args.entries.now c.args.place e at)) _ _ (rw (c.deref.ensures, c.new-named.ensures.items) at c.in_ok-put_named.ensures) c.in_ok-put_names_of.ensures n
