-- The board on which a session was checked.
use Rattle.std.specs.Prelude.{◌≡◌, ℕ, List}
use Rattle.pure_graph.specs.Order.{Loaded}
use Rattle.pure_table.specs.Declare.Notes.{Fork}
use Rattle.pure_table.specs.Method.Outcome.{IsOutcomeOf}
use Rattle.pure_table.specs.Method.declared.outcome.Outcome.{Outcome}
use Rattle.pure_table.specs.TheoryRun.Checked.{Checked}
use Rattle.pure_table.specs.TheoryRun.Outline.{Outline}
use Rattle.pure_machine.specs.Policy.{Policy}
use Rattle.pure_core_runs.specs.Seats.{state_of, IsNumberedRun}
use Rattle.pure_board.specs.Boards.{Ending}
use Rattle.pure_pool.specs.Executed.{IsExecuted}
use Rattle.pure_check_work.specs.Relations.{shape_of, ForksAfter, ClosesAfter, is_fault}

-- The closed board was opened for the session, with the parents of its theories as its shape, this policy and as many workers. Its history is a legal run of the session, in which each event stands with the number of the seat that entered it, and its core is in the state of that history.
-- Nobody stopped the work; all theories are closed, and all promises are settled or cancelled.
pub record IsBoardOf (texts : List (List ℕ)) (theories : List Loaded) (policy : Policy) (workers : ℕ) (board : Ending Checked Fork Outline Outcome) : Type 0 where
  pub session : board.session ≡ record { texts = texts; theories = theories }
  pub opening : board.opening ≡ record { shape = shape_of theories; policy = policy; workers = workers }
  pub run : IsNumberedRun (ForksAfter texts theories) (ClosesAfter texts theories) (IsOutcomeOf texts) is_fault board.opening board.history
  pub state : board.core ≡ state_of board.opening board.history
  pub executed : IsExecuted board
