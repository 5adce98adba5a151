use Rattle.std.proofs.Common.{subst, sym}
use denote.Param.Send.{sendable}
use Rattle.std.proofs.Crossing.{crosses}
use Rattle.pure_check_work.proofs.SendLaws.{checking_send, checking_sync, duty_send, duty_sync, closed_send, closed_sync, outcome_send, outcome_sync, run_send, run_sync, attempt_send, attempt_sync}
use Rattle.pure_machine.specs.Step.{IsShape}
use Rattle.pure_check_work.proofs.RunLaws.{shape-formed}
use Rattle.pure_check_work.proofs.BoardLaws.{board-of}
use Rattle.pure_check_work.proofs.board.checked.Goals as goal

pub execute-requires-clause-formed : goal.execute-requires-clause-formed
execute-requires-clause-formed g c κs within = subst IsShape (sym c.in_ok-shape.ensures) (shape-formed c.args.work.now.texts c.args.work.now.theories c.is_loaded_session.ensures)

pub returns : goal.returns
returns g c = board-of c.args.work.now _ _ _ _ c.in_ok-closed.ensures.session c.in_ok-shape.ensures c.in_ok-closed.ensures.opening c.in_ok-closed.ensures.ended c.in_ok-closed.ensures.executed

pub execute-requires-send-W : goal.execute-requires-send-W
execute-requires-send-W g c = search (checking_send, crosses, sendable) depth 60

pub execute-requires-send-W-Goal : goal.execute-requires-send-W-Goal
execute-requires-send-W-Goal g c = search (duty_send, crosses, sendable) depth 60

pub execute-requires-send-W-Closed : goal.execute-requires-send-W-Closed
execute-requires-send-W-Closed g c = search (closed_send, crosses, sendable) depth 60

pub execute-requires-send-W-Outcome : goal.execute-requires-send-W-Outcome
execute-requires-send-W-Outcome g c = search (outcome_send, crosses, sendable) depth 60

pub execute-requires-send-W-Run : goal.execute-requires-send-W-Run
execute-requires-send-W-Run g c = search (run_send, crosses, sendable) depth 60

pub execute-requires-sync-W : goal.execute-requires-sync-W
execute-requires-sync-W g c = search (checking_sync, crosses, sendable) depth 60

pub execute-requires-sync-W-Goal : goal.execute-requires-sync-W-Goal
execute-requires-sync-W-Goal g c = search (duty_sync, crosses, sendable) depth 60

pub execute-requires-sync-W-Closed : goal.execute-requires-sync-W-Closed
execute-requires-sync-W-Closed g c = search (closed_sync, crosses, sendable) depth 60

pub execute-requires-sync-W-Outcome : goal.execute-requires-sync-W-Outcome
execute-requires-sync-W-Outcome g c = search (outcome_sync, crosses, sendable) depth 60

pub execute-requires-sync-W-Run : goal.execute-requires-sync-W-Run
execute-requires-sync-W-Run g c = search (run_sync, crosses, sendable) depth 60

pub execute-requires-send-W-Proving : goal.execute-requires-send-W-Proving
execute-requires-send-W-Proving g c = search (attempt_send, crosses, sendable) depth 60

pub execute-requires-sync-W-Proving : goal.execute-requires-sync-W-Proving
execute-requires-sync-W-Proving g c = search (attempt_sync, crosses, sendable) depth 60
