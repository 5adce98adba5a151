use Rattle.std.proofs.Common.{sym, subst, []}
use Rattle.std.proofs.lemmas.List.{append-nil}
use Rattle.pure_text.specs.Lists.{EachTwo}
use Rattle.pure_graph.specs.Seen.{seen_files}
use Rattle.pure_session.specs.ImportGraph.{standing, IsImportRow}
use Rattle.pure_session.specs.Places.{cells}
use Rattle.pure_text.proofs.MergeLaws.{past_end}
use Rattle.pure_session.proofs.judge.import_table.Goals as goal

pub returns : goal.returns
returns c =
    subst (EachTwo (IsImportRow c.args.names.now) (standing (seen_files c.args.files.now))) (append-nil (cells c.loop-file.rows.items))
    (c.loop-file.invariant [] (subst (λ fs. EachTwo (IsImportRow c.args.names.now) (standing (seen_files fs)) []) (sym (past_end c.args.files.now c.loop-file.file-index c.loop-file-test.false)) tt))
