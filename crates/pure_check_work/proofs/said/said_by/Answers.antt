use Rattle.std.proofs.Common.{ap}
use denote.Param.Send.{sendable}
use Rattle.std.proofs.Crossing.{crosses}
use Rattle.pure_check_work.proofs.SendLaws.{checking_send, checking_sync, duty_send, duty_sync, closed_send, closed_sync, outcome_send, outcome_sync, run_send, run_sync, attempt_send, attempt_sync}
use Rattle.pure_table.specs.Declare.Notes.{Fork}
use Rattle.pure_table.specs.Method.declared.outcome.Outcome.{Outcome}
use Rattle.pure_table.specs.TheoryRun.Outline.{Outline}
use Rattle.pure_machine.specs.State.{State}
use Rattle.pure_check_work.proofs.BoardLaws.{ended-legal}
use Rattle.pure_check_work.proofs.TableLaws.{said-by}
use Rattle.pure_check_work.proofs.said.said_by.Goals as goal

pub join_core-requires-clause-legal : goal.join_core-requires-clause-legal
join_core-requires-clause-legal c κs = ended-legal c.args.work.now c.args.board.now _ c.requires.session c.known.ensures c.core.ensures

pub returns : goal.returns
returns c = said-by c.args.work.now.texts c.args.work.now.theories c.is_loaded_session.ensures _ _ _ _ _ (ap (λ (s : State Fork Outline Outcome). s.promises) c.core.ensures) c.in_ok-values.ensures.ordered c.in_ok-values.ensures.joined c.in_ok-entries.ensures _ (rw c.as_slice.ensures.value at c.in_ok-duties.ensures)

pub known-requires-send-W : goal.known-requires-send-W
known-requires-send-W c = search (checking_send, crosses, sendable) depth 60

pub known-requires-send-W-Goal : goal.known-requires-send-W-Goal
known-requires-send-W-Goal c = search (duty_send, crosses, sendable) depth 60

pub known-requires-send-W-Closed : goal.known-requires-send-W-Closed
known-requires-send-W-Closed c = search (closed_send, crosses, sendable) depth 60

pub known-requires-send-W-Outcome : goal.known-requires-send-W-Outcome
known-requires-send-W-Outcome c = search (outcome_send, crosses, sendable) depth 60

pub known-requires-send-W-Run : goal.known-requires-send-W-Run
known-requires-send-W-Run c = search (run_send, crosses, sendable) depth 60

pub known-requires-sync-W : goal.known-requires-sync-W
known-requires-sync-W c = search (checking_sync, crosses, sendable) depth 60

pub known-requires-sync-W-Goal : goal.known-requires-sync-W-Goal
known-requires-sync-W-Goal c = search (duty_sync, crosses, sendable) depth 60

pub known-requires-sync-W-Closed : goal.known-requires-sync-W-Closed
known-requires-sync-W-Closed c = search (closed_sync, crosses, sendable) depth 60

pub known-requires-sync-W-Outcome : goal.known-requires-sync-W-Outcome
known-requires-sync-W-Outcome c = search (outcome_sync, crosses, sendable) depth 60

pub known-requires-sync-W-Run : goal.known-requires-sync-W-Run
known-requires-sync-W-Run c = search (run_sync, crosses, sendable) depth 60

pub core-requires-send-W : goal.core-requires-send-W
core-requires-send-W c = search (checking_send, crosses, sendable) depth 60

pub core-requires-send-W-Goal : goal.core-requires-send-W-Goal
core-requires-send-W-Goal c = search (duty_send, crosses, sendable) depth 60

pub core-requires-send-W-Closed : goal.core-requires-send-W-Closed
core-requires-send-W-Closed c = search (closed_send, crosses, sendable) depth 60

pub core-requires-send-W-Outcome : goal.core-requires-send-W-Outcome
core-requires-send-W-Outcome c = search (outcome_send, crosses, sendable) depth 60

pub core-requires-send-W-Run : goal.core-requires-send-W-Run
core-requires-send-W-Run c = search (run_send, crosses, sendable) depth 60

pub core-requires-sync-W : goal.core-requires-sync-W
core-requires-sync-W c = search (checking_sync, crosses, sendable) depth 60

pub core-requires-sync-W-Goal : goal.core-requires-sync-W-Goal
core-requires-sync-W-Goal c = search (duty_sync, crosses, sendable) depth 60

pub core-requires-sync-W-Closed : goal.core-requires-sync-W-Closed
core-requires-sync-W-Closed c = search (closed_sync, crosses, sendable) depth 60

pub core-requires-sync-W-Outcome : goal.core-requires-sync-W-Outcome
core-requires-sync-W-Outcome c = search (outcome_sync, crosses, sendable) depth 60

pub core-requires-sync-W-Run : goal.core-requires-sync-W-Run
core-requires-sync-W-Run c = search (run_sync, crosses, sendable) depth 60

pub join_core-requires-send-W : goal.join_core-requires-send-W
join_core-requires-send-W c = search (checking_send, crosses, sendable) depth 60

pub join_core-requires-send-W-Goal : goal.join_core-requires-send-W-Goal
join_core-requires-send-W-Goal c = search (duty_send, crosses, sendable) depth 60

pub join_core-requires-send-W-Closed : goal.join_core-requires-send-W-Closed
join_core-requires-send-W-Closed c = search (closed_send, crosses, sendable) depth 60

pub join_core-requires-send-W-Outcome : goal.join_core-requires-send-W-Outcome
join_core-requires-send-W-Outcome c = search (outcome_send, crosses, sendable) depth 60

pub join_core-requires-send-W-Run : goal.join_core-requires-send-W-Run
join_core-requires-send-W-Run c = search (run_send, crosses, sendable) depth 60

pub join_core-requires-sync-W : goal.join_core-requires-sync-W
join_core-requires-sync-W c = search (checking_sync, crosses, sendable) depth 60

pub join_core-requires-sync-W-Goal : goal.join_core-requires-sync-W-Goal
join_core-requires-sync-W-Goal c = search (duty_sync, crosses, sendable) depth 60

pub join_core-requires-sync-W-Closed : goal.join_core-requires-sync-W-Closed
join_core-requires-sync-W-Closed c = search (closed_sync, crosses, sendable) depth 60

pub join_core-requires-sync-W-Outcome : goal.join_core-requires-sync-W-Outcome
join_core-requires-sync-W-Outcome c = search (outcome_sync, crosses, sendable) depth 60

pub join_core-requires-sync-W-Run : goal.join_core-requires-sync-W-Run
join_core-requires-sync-W-Run c = search (run_sync, crosses, sendable) depth 60

pub known-requires-send-W-Proving : goal.known-requires-send-W-Proving
known-requires-send-W-Proving c = search (attempt_send, crosses, sendable) depth 60

pub known-requires-sync-W-Proving : goal.known-requires-sync-W-Proving
known-requires-sync-W-Proving c = search (attempt_sync, crosses, sendable) depth 60

pub core-requires-send-W-Proving : goal.core-requires-send-W-Proving
core-requires-send-W-Proving c = search (attempt_send, crosses, sendable) depth 60

pub core-requires-sync-W-Proving : goal.core-requires-sync-W-Proving
core-requires-sync-W-Proving c = search (attempt_sync, crosses, sendable) depth 60

pub join_core-requires-send-W-Proving : goal.join_core-requires-send-W-Proving
join_core-requires-send-W-Proving c = search (attempt_send, crosses, sendable) depth 60

pub join_core-requires-sync-W-Proving : goal.join_core-requires-sync-W-Proving
join_core-requires-sync-W-Proving c = search (attempt_sync, crosses, sendable) depth 60
