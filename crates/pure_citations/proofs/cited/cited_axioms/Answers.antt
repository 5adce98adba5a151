use Rattle.std.proofs.Common.{map, length}
use Rattle.pure_promise_fates.proofs.CodeLaws.{seen-length}
use Rattle.pure_table.specs.Promise.Seen.{seen, seen_entry, reported}
use Rattle.pure_table.proofs.Promise.RowLaws.{reported-plain}
use Rattle.pure_citations.proofs.CitedCode.{cited-by}
use Rattle.pure_citations.proofs.cited.cited_axioms.Goals as goal

pub returns : goal.returns
returns c =
    cited-by c.args.names.now (map (λ d. d.value) c.args.duties.now) (seen c.args.entries.now) c.args.name (map reported c.args.entries.now) (length c.args.entries.now) c.put_lemmas.new.row.items c.put_reached.new.row.items c.put_all.new.cited.items
    c.requires.beside (seen-length seen_entry c.args.entries.now) (reported-plain c.args.entries.now) (record {
      entries = c.requires.entries;
      first_is = rw (← c.new-row.ensures.items) c.in_ok-put_lemmas.ensures;
      row_is = c.in_ok-put_reached.ensures;
      axioms_are = rw (← c.new-axioms.ensures.items, ← c.deref.ensures.value) c.in_ok-put_all.ensures;
    })
