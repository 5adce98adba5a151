use Rattle.pure_session.proofs.ImportLemmas.{marks-turn}
use Rattle.pure_session.proofs.judge.import_row.Goals as goal

pub loop-import-preserved : goal.loop-import-preserved
loop-import-preserved c =
    marks-turn c.args.names.now c.args.imports.now c.loop-import.import-index c.import-item.result c.loop-import.row.items c.mark_import.new.row.items c.loop-import-test.true c.import-item.is c.loop-import.invariant c.in_ok-mark_import.ensures
