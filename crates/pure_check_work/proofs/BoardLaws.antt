-- The board of a session's work is one of the session.
use Rattle.std.proofs.Common.{◌≡◌, ◌∙◌, ℕ, List, sym, ap, subst}
use Rattle.pure_table.specs.Declare.Notes.{Fork}
use Rattle.pure_table.specs.Method.Outcome.{IsOutcomeOf}
use Rattle.pure_table.specs.Method.declared.outcome.Outcome.{Outcome}
use Rattle.pure_table.specs.TheoryRun.Checked.{Checked}
use Rattle.pure_table.specs.TheoryRun.Outline.{Outline}
use Rattle.pure_machine.specs.Policy.{Policy, Opening}
use Rattle.pure_machine.specs.State.{State}
use Rattle.pure_core.specs.Legal.{IsLegal}
use Rattle.pure_core_runs.specs.Seats.{state_of, IsNumberedRun}
use Rattle.pure_core_runs.proofs.SeatLaws.{run-legal}
use Rattle.pure_board.specs.Boards.{Ending, IsEnded}
use Rattle.pure_pool.specs.Executed.{IsExecuted}
use Rattle.pure_check_work.specs.Relations.{shape_of, ForksAfter, ClosesAfter, is_fault}
use Rattle.pure_check_work.specs.Boards.{IsBoardOf}

-- the closed board of the session's work
abbrev pub IsEndOf : Ending Checked Fork Outline Outcome → Type 0
IsEndOf end = IsEnded (λ (C : Checked). shape_of C.theories) (λ (C : Checked) i n m f. ForksAfter C.texts C.theories i n m f) (λ (C : Checked) i n o. ClosesAfter C.texts C.theories i n o) (λ (C : Checked) f o. IsOutcomeOf C.texts f o) (λ (C : Checked) o. is_fault o) end

run-of : (C : Checked) (end : Ending Checked Fork Outline Outcome) → end.session ≡ C → IsEndOf end → IsNumberedRun (ForksAfter C.texts C.theories) (ClosesAfter C.texts C.theories) (IsOutcomeOf C.texts) is_fault end.opening end.history
run-of C end same ended = subst (λ (D : Checked). IsNumberedRun (ForksAfter D.texts D.theories) (ClosesAfter D.texts D.theories) (IsOutcomeOf D.texts) is_fault end.opening end.history) same ended.run

pub board-of : (C : Checked) (policy : Policy) (workers : ℕ) (shape : List (List ℕ)) (end : Ending Checked Fork Outline Outcome) → end.session ≡ C → shape ≡ shape_of C.theories → end.opening ≡ record { shape = shape; policy = policy; workers = workers } → IsEndOf end → IsExecuted end
    → IsBoardOf C.texts C.theories policy workers end
board-of C policy workers shape end same shaped opening ended executed = record {
  session = same;
  opening = opening ∙ ap (λ s. record { shape = s; policy = policy; workers = workers }) shaped;
  run = run-of C end same ended;
  state = ended.state;
  executed = executed;
}

-- its core is in a state of a legal run
pub ended-legal : (C : Checked) (end : Ending Checked Fork Outline Outcome) (core : State Fork Outline Outcome) → end.session ≡ C → IsEndOf end → core ≡ end.core → IsLegal (shape_of C.theories) (ForksAfter C.texts C.theories) (ClosesAfter C.texts C.theories) (IsOutcomeOf C.texts) is_fault core
ended-legal C end core same ended lent =
    subst (λ (s : State Fork Outline Outcome). IsLegal (shape_of C.theories) (ForksAfter C.texts C.theories) (ClosesAfter C.texts C.theories) (IsOutcomeOf C.texts) is_fault s) (sym (lent ∙ ended.state))
    (subst (λ shape. IsLegal shape (ForksAfter C.texts C.theories) (ClosesAfter C.texts C.theories) (IsOutcomeOf C.texts) is_fault (state_of end.opening end.history)) (ended.shaped ∙ ap (λ (D : Checked). shape_of D.theories) same)
    (run-legal (ForksAfter C.texts C.theories) (ClosesAfter C.texts C.theories) (IsOutcomeOf C.texts) is_fault end.opening end.history (run-of C end same ended)))
