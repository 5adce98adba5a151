use Rattle.pure_graph.specs.Seen.{seen_files}
use Rattle.pure_graph.proofs.FilesLemmas.{files-of, IsReadSoFar-all}
use Rattle.pure_graph.proofs.files.read_files.Goals as goal

pub returns-clause-told : goal.returns-clause-told
returns-clause-told g c =
    files-of (g.L.Library.files c.args.library.now) (g.L.Library.files c.list.new.library) c.in_ok-names.names.items c.in_ok-theories.theories.items (seen_files c.in_ok-files.field-0.files.items)
    c.in_ok-names.ensures.files c.in_ok-names.ensures.told (rw c.deref.ensures.value at c.in_ok-theories.ensures)
    (IsReadSoFar-all _ c.in_ok-theories.theories.items (seen_files c.in_ok-files.field-0.files.items) c.in_ok-files.field-0.parts (rw c.deref-2.ensures.value at c.in_ok-files.ensures.told))
