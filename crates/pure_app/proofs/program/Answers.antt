use Rattle.pure_app.proofs.ExitLemmas.{exit-given, exit-unread}
use Rattle.pure_app.proofs.program.Goals as goal

pub returns-clause-unread : goal.returns-clause-unread
returns-clause-unread g c = exit-unread _ _ _ _ c.report.ensures c.run-status.ensures.unread

pub returns-clause-ends : goal.returns-clause-ends
returns-clause-ends g c = exit-given _ _ _ _ _ _ _ _ _ _ _ c.report.ensures
    c.run-status.ensures.usage c.run-status.ensures.untaken c.run-status.ensures.unchecked c.run-status.ensures.unwritten c.run-status.ensures.wrote c.run-status.ensures.read_fault c.run-status.ensures.write_fault c.run-status.ensures.complete
